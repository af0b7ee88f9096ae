-- A search in the order of finding has shortest chains.
use Rattle.std.proofs.Common.{◌≡◌, ◌≢◌, ℕ, suc, ◌+◌, ◌-◌, ◌<◌, ◌≤◌, List, [], ◌∷◌, ◌++◌, length, replicate, refl, sym, ◌∙◌, ap, subst, Bool, ◌⊎◌, inl, inr}
use Rattle.std.proofs.Common.{arith, get_or, length-append, cond}
use Rattle.std.specs.Prelude.{Contains, AllPairs}
use Rattle.std.proofs.lemmas.List.{get_or_append_left, get_or-append_right, get_or-replicate, get_or_default, length-replicate}
use Rattle.std.proofs.lemmas.List.Elements.{Contains-get_or}
use Rattle.std.proofs.lemmas.Bool.{cases_lt, cases_order, cond_below, cond_above}
use Rattle.std.specs.Prelude.{ltb}
use Rattle.wc_graph.specs.Reached.{IsPath}
use Rattle.wc_graph.specs.ShortestChains.{AreFinders, IsBefore, IsNotAfter, IsShortestChain}
use Rattle.wc_graph.specs.Growth.{HasGrown}
use Rattle.wc_graph.specs.Finders.{IsFoundWithin, IsNamedAt, IsTree, IsOrdered, AreFound}

-- how deep things are, once what is from n on was found by the one at `next`
abbrev pub deeper : (ℕ → ℕ) → ℕ → ℕ → ℕ → ℕ
deeper depth n next k = cond (ltb k n) (depth k) (depth next + 1)

pub deeper_old : (depth : ℕ → ℕ) (n next k : ℕ) → k < n → deeper depth n next k ≡ depth k
deeper_old depth n next k h = sym (cond_below k n (depth k) (depth next + 1) h)

pub deeper_new : (depth : ℕ → ℕ) (n next k : ℕ) → n ≤ k → deeper depth n next k ≡ depth next + 1
deeper_new depth n next k h = sym (cond_above k n (depth k) (depth next + 1) (depth next + 1) h refl)

module _ {X : Type 0} where
  pub shortest_start : (names : X → List X) (roots : List X) (has : X → Bool) (found : List X) (finder : List ℕ) → HasGrown [] has found roots
      → length finder ≡ length found → ((k : ℕ) → k < length found → get_or finder k 0 ≡ k) → IsTree names roots found finder (λ k. 0) 0
  shortest_start names roots has found finder g sized own = record {
    distinct = g.tied.distinct;
    sized = sized;
    within = omega arith;
    from = λ x c. let p = g.all x c in (p.0, p.1, p.2, omega arith);
    steps = λ k d h. inl (own k h, root k d h, refl);
    sorted = λ j k h l. omega arith;
    near = λ k h l. omega arith;
    passed = λ k d y h. absurd (omega arith);
  }
    where
      root : (k : ℕ) (d : X) → k < length found → Contains roots (get_or found k d)
      root k d h = elim (g.only (get_or found k d) (Contains-get_or found k d h)) [ inl n ↦ absurd (omega (arith, n.1)) | inr r ↦ r ]

  pub grown_longer : (found : List X) (has' : X → Bool) (found' xs : List X) → HasGrown found has' found' xs → length found ≤ length found'
  grown_longer found has' found' xs g = let e = ap length g.after.1 in let l = length-append found g.after.0 in omega (arith, e, l)

  pub shortest_step : (names : X → List X) (roots found : List X) (finder : List ℕ) (depth : ℕ → ℕ) (next : ℕ) (has' : X → Bool) (found' : List X) (x : X)
      → next < length found → ((d : X) → get_or found next d ≡ x) → IsTree names roots found finder depth next → HasGrown found has' found' (names x)
      → IsTree names roots found' (finder ++ replicate (length found' - length found) next) (deeper depth (length found) next) (next + 1)
  shortest_step names roots found finder depth next has' found' x lt at s g = record {
    distinct = g.tied.distinct;
    sized = let a = length-append finder (replicate (length found' - length found) next) in
        let r = length-replicate (length found' - length found) next in let z = s.sized in omega (arith, a, r, z, grew);
    within = omega (arith, grew);
    from = λ y c. found_old y 0 (s.from y c);
    steps = λ k d h. elim (cases_lt k (length found)) [
      | inl old ↦ elim (s.steps k d old) [
        | inl r ↦ inl (finder_old k old ∙ r.0, subst (Contains roots) (sym (same k d old)) r.1, deeper_old depth (length found) next k old ∙ r.2)
        | inr r ↦ inr (old_step k d old r)
      ]
      | inr new ↦ inr (new_step k d new h)
    ];
    sorted = λ j k h l. rises j k h l;
    near = λ k h l. let a = most k h in let b = rises next (next + 1) (omega arith) l in let c = deeper_old depth (length found) next next lt in omega (arith, a, b, c);
    passed = λ k d y h c. elim (below k h) [
      | inl old ↦ let ko : k < length found = omega arith in
          let f = found_old y (depth k + 1) (s.passed k d y old (subst (λ v. Contains (names v) y) (same k d ko) c)) in
          let e = deeper_old depth (length found) next k ko in (f.0, f.1, f.2, (let q = f.3 in omega (arith, q, e)))
      | inr now ↦
          let f = g.all y (subst (λ v. Contains (names v) y) (ap (λ i. get_or found' i d) now ∙ (same next d lt ∙ at d)) c) in
          let e = ap (deeper depth (length found) next) now in
          let o = deeper_old depth (length found) next next lt in let m = most f.0 f.1 in (f.0, f.1, f.2, omega (arith, e, o, m))
    ];
  }
    where
      grew : length found ≤ length found'
      grew = grown_longer found has' found' (names x) g

      same : (k : ℕ) (d : X) → k < length found → get_or found' k d ≡ get_or found k d
      same k d h = ap (λ z. get_or z k d) g.after.1 ∙ get_or_append_left found g.after.0 d k h

      below : (k : ℕ) → k < next + 1 → (k < next) ⊎ (k ≡ next)
      below k h = grind arith

      found_old : (y : X) (m : ℕ) → IsFoundWithin found depth y m → IsFoundWithin found' (deeper depth (length found) next) y m
      found_old y m f = let l = f.1 in let q = f.3 in let e = deeper_old depth (length found) next f.0 l in
          (f.0, omega (arith, l, grew), same f.0 y l ∙ f.2, omega (arith, q, e))

      finder_old : (k : ℕ) → k < length found → get_or (finder ++ replicate (length found' - length found) next) k 0 ≡ get_or finder k 0
      finder_old k h = let z = s.sized in get_or_append_left finder (replicate (length found' - length found) next) 0 k (omega (arith, z))

      finder_new : (k : ℕ) → length found ≤ k → k < length found' → get_or (finder ++ replicate (length found' - length found) next) k 0 ≡ next
      finder_new k h l =
          let z = s.sized in
          get_or-append_right finder (replicate (length found' - length found) next) (length found) k 0 z h
          ∙ get_or-replicate (length found' - length found) (k - length found) next 0 (omega arith)

      -- no depth is above that of what was found last
      most : (k : ℕ) → k < length found' → deeper depth (length found) next k ≤ depth next + 1
      most k h = elim (cases_lt k (length found)) [
        | inl old ↦ let n = s.near k old lt in let e = deeper_old depth (length found) next k old in omega (arith, n, e)
        | inr new ↦ let e = deeper_new depth (length found) next k new in omega (arith, e)
      ]

      rises : (j k : ℕ) → j ≤ k → k < length found' → deeper depth (length found) next j ≤ deeper depth (length found) next k
      rises j k h l = elim (cases_lt k (length found)) [
        | inl old ↦ let jo : j < length found = omega arith in
            let a = deeper_old depth (length found) next j jo in let b = deeper_old depth (length found) next k old in
            let r = s.sorted j k h old in omega (arith, a, b, r)
        | inr new ↦ let b = deeper_new depth (length found) next k new in let m = most j (omega arith) in omega (arith, b, m)
      ]

      old_step : (k : ℕ) (d : X) → k < length found → IsNamedAt names found finder depth k d
          → IsNamedAt names found' (finder ++ replicate (length found' - length found) next) (deeper depth (length found) next) k d
      old_step k d old r =
          let i = get_or finder k 0 in
          let rl : i < k = r.0 in
          let il : i < length found = omega arith in
          let fo : get_or (finder ++ replicate (length found' - length found) next) k 0 ≡ i = finder_old k old in (
            omega (arith, fo, rl),
            subst (λ z. Contains (names (get_or found' z d)) (get_or found' k d)) (sym fo)
                (subst (λ z. Contains (names z) (get_or found' k d)) (sym (same i d il)) (subst (Contains (names (get_or found i d))) (sym (same k d old)) r.1)),
            deeper_old depth (length found) next k old
                ∙ (r.2 ∙ ap (λ z. z + 1) (sym (ap (deeper depth (length found) next) fo ∙ deeper_old depth (length found) next i il))),
          )

      -- what was found last was not there before, so the thing at `next` names it
      named : (k : ℕ) (d : X) → length found ≤ k → k < length found' → Contains (names x) (get_or found' k d)
      named k d new h = elim (g.only (get_or found' k d) (Contains-get_or found' k d h)) [
        | inl old ↦
            let jl = old.1 in let jk : old.0 < k = omega (arith, jl) in
            absurd (g.tied.distinct old.0 k (get_or found' k d) jk h
            (same old.0 (get_or found' k d) jl ∙ (old.2 ∙ get_or_default found' k d (get_or found' k d) h)))
        | inr c ↦ c
      ]

      new_step : (k : ℕ) (d : X) → length found ≤ k → k < length found'
          → IsNamedAt names found' (finder ++ replicate (length found' - length found) next) (deeper depth (length found) next) k d
      new_step k d new h =
          let fn : get_or (finder ++ replicate (length found' - length found) next) k 0 ≡ next = finder_new k new h in (
            omega (arith, fn),
            subst (λ z. Contains (names (get_or found' z d)) (get_or found' k d)) (sym fn)
                (subst (λ z. Contains (names z) (get_or found' k d)) (sym (same next d lt ∙ at d)) (named k d new h)),
            deeper_new depth (length found) next k new
                ∙ ap (λ z. z + 1) (sym (ap (deeper depth (length found) next) fn ∙ deeper_old depth (length found) next next lt)),
          )

  -- a path leads to what is found no deeper than it is long
  least : (names : X → List X) (roots found : List X) (finder : List ℕ) (depth : ℕ → ℕ) → IsTree names roots found finder depth (length found)
      → (x : X) (path : List X) (y : X) (m : ℕ) → IsFoundWithin found depth x m → IsPath names x path y → IsFoundWithin found depth y (m + length path)
  least names roots found finder depth s x [] y m f w = (f.0, f.1, subst (λ z. get_or found f.0 z ≡ z) w f.2, (let q = f.3 in omega (arith, q)))
  least names roots found finder depth s x (z ∷ path) y m f w =
      let p = s.passed f.0 x z f.1 (subst (λ v. Contains (names v) z) (sym f.2) w.0) in
      let q = f.3 in let r = p.3 in
      let g = least names roots found finder depth s z path y (m + 1) (p.0, p.1, p.2, omega (arith, q, r)) w.1 in
      let t = g.3 in (g.0, g.1, g.2, omega (arith, t))

  pub finders : (names : X → List X) (roots found : List X) (finder : List ℕ) → X → AreFound names roots found finder → AreFinders found finder
  finders names roots found finder d a = record {
    sized = a.1.sized;
    earlier = λ k h. elim (a.1.steps k d h) [ inl r ↦ let e = r.0 in omega (arith, e) | inr r ↦ let e = r.0 in omega (arith, e) ];
  }

  -- the last things of a chain, from the one at a position on
  pub record IsTail (names : X → List X) (found : List X) (depth : ℕ → ℕ) (at position : ℕ) (d : X) (items : List X) : Type 0 where
    pub rest : List X
    pub is : items ≡ get_or found at d ∷ rest
    pub leads : IsPath names (get_or found at d) rest (get_or found position d)
    pub deep : length rest + depth at ≡ depth position
    pub first : (j : ℕ) (other : List X) → j < length found → depth j ≤ depth at → IsPath names (get_or found j d) other (get_or found position d)
        → length other ≡ length rest → (at ≤ j) × (at ≡ j → IsNotAfter names (names (get_or found at d)) rest other)

  -- the last things of the chains of whatever search has these finders
  abbrev pub AreTails : List X → List ℕ → ℕ → ℕ → X → List X → Type 0
  AreTails found finder at position d items = (names : X → List X) (roots : List X) (depth : ℕ → ℕ)
      → IsTree names roots found finder depth (length found) → IsOrdered names roots found finder depth (length found)
      → IsTail names found depth at position d items

  -- one position has one thing
  one_position : (found : List X) (j k : ℕ) (d y : X) → AllPairs (λ a b. a ≢ b) found → j < length found → k < length found → get_or found j y ≡ y
      → get_or found k d ≡ y → j ≡ k
  one_position found j k d y pairs jl kl je ke = elim (cases_order j k) [
    | inl e ↦ e
    | inr o ↦ elim o [
      | inl lt ↦ absurd (pairs j k y lt kl (je ∙ sym (get_or_default found k y d kl ∙ ke)))
      | inr gt ↦ absurd (pairs k j y gt jl ((get_or_default found k y d kl ∙ ke) ∙ sym je))
    ]
  ]

  empty : (xs : List X) → length xs ≡ 0 → xs ≡ []
  empty [] e = refl
  empty (x ∷ xs) e = absurd (omega (arith, e))

  pub tails_start : (found : List X) (finder : List ℕ) (position : ℕ) (d : X) → position < length found
      → AreTails found finder position position d (get_or found position d ∷ [])
  tails_start found finder position d pl names roots depth s o = record {
    rest = [];
    is = refl;
    leads = refl;
    deep = omega arith;
    first = λ j other l h w n.
        let e : get_or found j d ≡ get_or found position d = subst (λ z. IsPath names (get_or found j d) z (get_or found position d)) (empty other n) w in
        let p = one_position found j position d (get_or found position d) s.distinct l pl (get_or_default found j (get_or found position d) d l ∙ e) refl in
        (omega (arith, p), λ same. tt);
  }

  -- paths that begin at positions of one depth: the one of the search is the first
  tails_first : (names : X → List X) (roots found : List X) (finder : List ℕ) (depth : ℕ → ℕ) → IsTree names roots found finder depth (length found)
      → IsOrdered names roots found finder depth (length found)
      → (at position : ℕ) (d : X) (rest : List X) → at < length found → depth at ≡ depth (get_or finder at 0) + 1
      → ((j : ℕ) (other : List X) → j < length found → depth j ≤ depth at → IsPath names (get_or found j d) other (get_or found position d)
      → length other ≡ length rest → (at ≤ j) × (at ≡ j → IsNotAfter names (names (get_or found at d)) rest other))
      → (j : ℕ) (other : List X) → j < length found → depth j ≤ depth (get_or finder at 0) → IsPath names (get_or found j d) other (get_or found position d)
      → length other ≡ suc (length rest)
      → (get_or finder at 0 ≤ j) × (get_or finder at 0 ≡ j
      → IsNotAfter names (names (get_or found (get_or finder at 0) d)) (get_or found at d ∷ rest) other)
  tails_first names roots found finder depth s o at position d rest lt up t j [] l h w n = absurd (omega (arith, n))
  tails_first names roots found finder depth s o at position d rest lt up t j (z ∷ other) l h w n =
      let p = s.passed j d z l w.0 in
      let i = p.0 in
      let il : i < length found = p.1 in
      let id : get_or found i d ≡ z = get_or_default found i d z il ∙ p.2 in
      let pd : depth i ≤ depth j + 1 = p.3 in
      let u = t i other il (omega (arith, pd, h, up)) (subst (λ v. IsPath names v other (get_or found position d)) (sym id) w.1) (omega (arith, n)) in
      let after : at ≤ i = u.0 in
      let sorted : depth at ≤ depth i = s.sorted at i after il in
      let inner : 0 < depth i = omega (arith, sorted, up) in
      let inner_at : 0 < depth at = omega (arith, up) in
      let rising : get_or finder at 0 ≤ get_or finder i 0 = o.rising at i after il inner_at in
      let no_later : get_or finder i 0 ≤ j = elim (cases_lt j (get_or finder i 0)) [
        | inl early ↦ absurd (o.none_before i j d il inner early (subst (Contains (names (get_or found j d))) (sym id) w.0))
        | inr e ↦ e
      ] in (
        omega (arith, rising, no_later),
        λ same. elim (cases_lt at i) [
          | inl before ↦
              let one : get_or finder at 0 ≡ get_or finder i 0 = omega (arith, rising, no_later, same) in
              inr (subst (IsBefore (names (get_or found (get_or finder at 0) d)) (get_or found at d)) id (o.names_ordered at i d before il inner_at one))
          | inr not_before ↦
              let equal : at ≡ i = omega (arith, after, not_before) in
              inl (ap (λ k. get_or found k d) equal ∙ id, u.1 equal)
        ],
      )

  pub tails_step : (found : List X) (finder : List ℕ) (at position : ℕ) (d : X) (items : List X) → at < length found → get_or finder at 0 ≢ at
      → AreTails found finder at position d items → AreTails found finder (get_or finder at 0) position d (get_or found (get_or finder at 0) d ∷ items)
  tails_step found finder at position d items lt other t names roots depth s o =
      let u = t names roots depth s o in
      elim (s.steps at d lt) [
        | inl r ↦ absurd (other r.0)
        | inr r ↦ record {
          rest = get_or found at d ∷ u.rest;
          is = ap (λ z. get_or found (get_or finder at 0) d ∷ z) u.is;
          leads = (r.1, u.leads);
          deep = let e = u.deep in let q = r.2 in omega (arith, e, q);
          first = tails_first names roots found finder depth s o at position d u.rest lt r.2 u.first;
        }
      ]

  pub tails_end : (found : List X) (finder : List ℕ) (at position : ℕ) (d : X) (items : List X) → at < length found → position < length found
      → get_or finder at 0 ≡ at → AreTails found finder at position d items → (names : X → List X) (roots : List X) → AreFound names roots found finder
      → IsShortestChain names roots (get_or found position d) items
  tails_end found finder at position d items lt pl own t names roots a =
      let u = t names roots a.0 a.1 a.2 in
      elim (a.1.steps at d lt) [
        | inl r ↦ record {
          root = get_or found at d;
          path = u.rest;
          is = u.is;
          from = r.1;
          leads = u.leads;
          shortest = λ x other c w.
              let f = least names roots found finder a.0 a.1 x other (get_or found position d) 0 (a.1.from x c) w in
              let e = ap a.0 (one_position found f.0 position d (get_or found position d) a.1.distinct f.1 pl f.2 refl) in
              let q = f.3 in let deep = u.deep in let z = r.2 in omega (arith, e, q, deep, z);
          first = λ x other c w n.
              let p = a.1.from x c in
              let j = p.0 in
              let jl : j < length found = p.1 in
              let jd : get_or found j d ≡ x = get_or_default found j d x jl ∙ p.2 in
              let zero_deep : a.0 j ≤ 0 = p.3 in
              let v = u.first j other jl (omega (arith, zero_deep)) (subst (λ z. IsPath names z other (get_or found position d)) (sym jd) w) n in
              let after : at ≤ j = v.0 in
              elim (cases_lt at j) [
                | inl before ↦ inr (subst (IsBefore roots (get_or found at d)) jd (a.2.roots_ordered at j d before jl (omega (arith, zero_deep))))
                | inr not_before ↦
                    let equal : at ≡ j = omega (arith, after, not_before) in
                    inl (ap (λ k. get_or found k d) equal ∙ jd, v.1 equal)
              ];
        }
        | inr r ↦ absurd (let h = r.0 in omega (arith, h, own))
      ]
