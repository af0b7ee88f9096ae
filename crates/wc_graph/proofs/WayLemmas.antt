-- A search that goes round the items of a way.
use Rattle.std.proofs.Common.{◌≡◌, ◌≢◌, ℕ, zero, suc, ◌+◌, ◌-◌, ◌<◌, ◌≤◌, List, [], ◌∷◌, ◌++◌, length, drop, get_or, refl, sym, ◌∙◌, ap, subst, ◌⊎◌, inl, inr, arith}
use Rattle.std.proofs.Common.{Bool, false, eqb, eqb-true, eq-eqb, Option, Some, None, length-append, length-drop}
use Rattle.std.specs.Prelude.{AllPairs, Contains, IsTrue, ◌↔◌}
use Rattle.std.specs.List.{slice_get}
use Rattle.std.proofs.lemmas.Bool.{cases_eq, cases_lt}
use Rattle.std.proofs.lemmas.List.{get_or-drop, get_or_append_left, get_or_default, get_or_push, length_push}
use Rattle.std.proofs.lemmas.List.Elements.{Contains-append_cases, Contains-append_left, Contains-get_or}
use Rattle.std.proofs.lemmas.Option.{get_or_from_slice_get, same_Some, slice_get-get_or, slice_get_within}
use Rattle.wc_graph.specs.Growth.{HasGrown}
use Rattle.wc_graph.specs.Reached.{IsPath}
use Rattle.wc_graph.specs.Dominators.{IsOnAllPaths}
use Rattle.wc_graph.specs.Private.Fronts.{KeepsFront}
use Rattle.wc_graph.specs.declared.fronts.Front.{Front}
use Rattle.wc_graph.specs.Private.Ways.{AreDominators, ArePositions, IsFront, IsOpen, IsOpenPath, IsOpenTo, IsWay, held_at}

-- paths, and what is on them

module _ (names : ℕ → List ℕ) where
  pub step_on : (x : ℕ) (path : List ℕ) (t : ℕ) → IsPath names x path t → (j : ℕ) → suc j < length (x ∷ path)
      → Contains (names (get_or (x ∷ path) j 0)) (get_or (x ∷ path) (suc j) 0)
  step_on x [] t w j lt = absurd (omega (arith, lt))
  step_on x (z ∷ zs) t w zero lt = w.0
  step_on x (z ∷ zs) t w (suc j) lt = step_on z zs t w.1 j (omega (arith, lt))

  pub rest_of : (x : ℕ) (path : List ℕ) (t : ℕ) → IsPath names x path t → (j : ℕ) → j < length (x ∷ path)
      → IsPath names (get_or (x ∷ path) j 0) (drop (suc j) (x ∷ path)) t
  rest_of x path t w zero lt = w
  rest_of x [] t w (suc j) lt = absurd (omega (arith, lt))
  rest_of x (z ∷ zs) t w (suc j) lt = rest_of z zs t w.1 j (omega (arith, lt))

  pub path_on : (x : ℕ) (path : List ℕ) (y : ℕ) (more : List ℕ) (t : ℕ) → IsPath names x path y → IsPath names y more t → IsPath names x (path ++ more) t
  path_on x [] y more t w v = subst (λ z. IsPath names z more t) (sym w) v
  path_on x (z ∷ zs) y more t w v = (w.0, path_on z zs y more t w.1 v)

  module _ (positions : List (Option ℕ)) where
    pub open_path : (k x : ℕ) (path : List ℕ) (y : ℕ) → IsOpenPath names positions k x path y → IsPath names x path y
    open_path k x [] y w = w
    open_path k x (z ∷ zs) y w = (w.1, open_path k z zs y w.2)

    pub open_on : (k x : ℕ) (path : List ℕ) (y z : ℕ) → IsOpenPath names positions k x path y → IsOpen positions k y → Contains (names y) z
        → IsOpenPath names positions k x (path ++ z ∷ []) z
    open_on k x [] y z w o c = (subst (IsOpen positions k) (sym w) o, subst (λ v. Contains (names v) z) (sym w) c, refl)
    open_on k x (v ∷ vs) y z w o c = (w.0, w.1, open_on k v vs y z w.2 o c)

    pub open_more : (k x : ℕ) (path : List ℕ) (y : ℕ) → IsOpenPath names positions k x path y → IsOpenPath names positions (k + 1) x path y
    open_more k x [] y w = w
    open_more k x (z ∷ zs) y w = ((λ j e. let l = w.0 j e in omega (arith, l)), w.1, open_more k z zs y w.2)

    -- of what is on an open path the search goes on from each, but for the last
    pub on_open : (k x : ℕ) (path : List ℕ) (y v : ℕ) → IsOpenPath names positions k x path y → Contains (x ∷ path) v → IsOpen positions k v ⊎ (v ≡ y)
    on_open k x [] y v w (zero, lt, e) = inr (sym e ∙ w)
    on_open k x [] y v w (suc i, lt, e) = absurd (omega (arith, lt))
    on_open k x (z ∷ zs) y v w (zero, lt, e) = inl (subst (IsOpen positions k) e w.0)
    on_open k x (z ∷ zs) y v w (suc i, lt, e) = on_open k z zs y v w.2 (i, omega (arith, lt), e)

    pub opened_more : (roots : List ℕ) (k x : ℕ) → IsOpenTo names roots positions k x → IsOpenTo names roots positions (k + 1) x
    opened_more roots k x (r, h, path, w) = (r, h, path, open_more k r path x w)

    pub opened_on : (roots : List ℕ) (k y z : ℕ) → IsOpenTo names roots positions k y → IsOpen positions k y → Contains (names y) z
        → IsOpenTo names roots positions k z
    opened_on roots k y z (r, h, path, w) o c = (r, h, path ++ z ∷ [], open_on k r path y z w o c)

-- a way by its positions
pub record IsWayAt (names : ℕ → List ℕ) (roots targets way : List ℕ) : Type 0 where
  pub some : 0 < length way
  pub begins : Contains roots (get_or way 0 0)
  pub step : (j : ℕ) → suc j < length way → Contains (names (get_or way j 0)) (get_or way (suc j) 0)
  pub target : ℕ
  pub ends : Contains targets target
  pub rest : (j : ℕ) → j < length way → IsPath names (get_or way j 0) (drop (suc j) way) target
  pub distinct : (i j : ℕ) → i < j → j < length way → get_or way i 0 ≢ get_or way j 0
  pub last : (k : ℕ) → k + 1 ≡ length way → get_or way k 0 ≡ target
  pub only : (k : ℕ) → k + 1 < length way → ¬ (Contains targets (get_or way k 0))

pub last_of : (names : ℕ → List ℕ) (x : ℕ) (path : List ℕ) (t : ℕ) → IsPath names x path t → (k : ℕ) → k + 1 ≡ length (x ∷ path) → get_or (x ∷ path) k 0 ≡ t
last_of names x [] t w zero e = w
last_of names x [] t w (suc k) e = absurd (omega (arith, e))
last_of names x (z ∷ zs) t w zero e = absurd (omega (arith, e))
last_of names x (z ∷ zs) t w (suc k) e = last_of names z zs t w.1 k (omega (arith, e))

pub way_at : (names : ℕ → List ℕ) (roots targets way : List ℕ) → IsWay names roots targets way → IsWayAt names roots targets way
way_at names roots targets way w =
    subst (IsWayAt names roots targets) (sym w.is) (record {
      some = omega arith;
      begins = w.from;
      step = step_on names w.root w.path w.target w.leads;
      target = w.target;
      ends = w.ends;
      rest = rest_of names w.root w.path w.target w.leads;
      distinct = λ i j h l. let once = subst (λ (z : List ℕ). AllPairs (λ x y. x ≢ y) z) w.is w.once in once i j 0 h l;
      last = last_of names w.root w.path w.target w.leads;
      only = λ k h.
          let only = subst (λ (z : List ℕ). (k x : ℕ) → k + 1 < length z → slice_get z k ≡ Some x → ¬ (Contains targets x)) w.is w.only in
          only k (get_or (w.root ∷ w.path) k 0) h (slice_get-get_or (w.root ∷ w.path) k 0 (omega (arith, h)));
    })

-- the search

module _ (names : ℕ → List ℕ) (roots way : List ℕ) (positions : List (Option ℕ)) where
  pub front_start : (found : List ℕ) (has : ℕ → Bool) → HasGrown [] has found roots → IsFront names roots way positions 0 found 0 0
  front_start found has g = record {
    within = omega arith;
    rooted = g.all;
    opened = λ j x h c. absurd (omega (arith, h));
    passed = λ i x h e c. absurd (omega (arith, h));
    open_to = λ i h. elim (g.only (get_or found i 0) (Contains-get_or found i 0 h)) [
      | inl n ↦ absurd (let l = n.1 in omega (arith, l))
      | inr r ↦ (get_or found i 0, r, [], refl)
    ];
    most = λ i j h e. absurd (omega (arith, h));
    is_last = inl refl;
  }

  module _ (k : ℕ) (found : List ℕ) (next last : ℕ) (lt : next < length found) (f : IsFront names roots way positions k found next last) where
    below : (i : ℕ) → i < next + 1 → (i < next) ⊎ (i ≡ next)
    below i h = grind arith

    -- an item of the way, or a target, is passed
    pub front_held : (p last' : ℕ) → held_at positions (get_or found next 0) ≡ Some p → last ≤ last' → p ≤ last' → (last' ≡ last) ⊎ (last' ≡ p)
        → IsFront names roots way positions k found (next + 1) last'
    front_held p last' held a b one = record {
      within = omega (arith, lt);
      rooted = f.rooted;
      opened = f.opened;
      passed = λ i x h e c. elim (below i h) [
        | inl old ↦ f.passed i x old e c
        | inr now ↦ none (sym (ap (λ z. held_at positions (get_or found z 0)) now ∙ held) ∙ e)
      ];
      open_to = f.open_to;
      most = λ i j h e. elim (below i h) [
        | inl old ↦ let m = f.most i j old e in omega (arith, m, a)
        | inr now ↦ let same : p ≡ j = same_Some p j (sym (ap (λ z. held_at positions (get_or found z 0)) now ∙ held) ∙ e) in omega (arith, same, b)
      ];
      is_last = elim one [
        | inl same ↦ elim f.is_last [
          | inl none ↦ inl (same ∙ none)
          | inr (i, h, e) ↦ inr (i, omega (arith, h), e ∙ ap Some (sym same))
        ]
        | inr same ↦ inr (next, omega arith, held ∙ ap Some (sym same))
      ];
    }
      where
        none : {A : Type 0} {x : ℕ} → Some x ≡ None → A
        none e = absurd cc

    -- what another item names is found
    pub front_on : (found' : List ℕ) (has' : ℕ → Bool) → held_at positions (get_or found next 0) ≡ None → HasGrown found has' found' (names (get_or found next 0))
        → IsFront names roots way positions k found' (next + 1) last
    front_on found' has' free g = record {
      within = omega (arith, lt, grew);
      rooted = λ x c. kept x (f.rooted x c);
      opened = λ j x h c. kept x (f.opened j x h c);
      passed = λ i x h e c. elim (below i h) [
        | inl old ↦ kept x (f.passed i x old (sym (ap (held_at positions) (same i (omega (arith, old, lt)))) ∙ e)
            (subst (λ v. Contains (names v) x) (same i (omega (arith, old, lt))) c))
        | inr now ↦ g.all x (subst (λ v. Contains (names v) x) (ap (λ z. get_or found' z 0) now ∙ same next lt) c)
      ];
      open_to = λ i h. elim (cases_lt i (length found)) [
        | inl old ↦ subst (IsOpenTo names roots positions k) (sym (same i old)) (f.open_to i old)
        | inr new ↦ elim (g.only (get_or found' i 0) (Contains-get_or found' i 0 h)) [
          | inl c ↦ let e : get_or found c.0 0 ≡ get_or found' i 0 = get_or_default found c.0 0 (get_or found' i 0) c.1 ∙ c.2 in
              subst (IsOpenTo names roots positions k) e (f.open_to c.0 c.1)
          | inr c ↦ opened_on names positions roots k (get_or found next 0) (get_or found' i 0) (f.open_to next lt) (λ j e. absurd cc) c
        ]
      ];
      most = λ i j h e. elim (below i h) [
        | inl old ↦ f.most i j old (sym (ap (held_at positions) (same i (omega (arith, old, lt)))) ∙ e)
        | inr now ↦ absurd (let z = ap (λ z. held_at positions (get_or found' z 0)) now ∙ (ap (held_at positions) (same next lt) ∙ free) in cc)
      ];
      is_last = elim f.is_last [
        | inl none ↦ inl none
        | inr (i, h, e) ↦ inr (i, omega (arith, h), ap (held_at positions) (same i (omega (arith, h, lt))) ∙ e)
      ];
    }
      where
        grew : length found ≤ length found'
        grew = let e = ap length g.after.1 in let l = length-append found g.after.0 in omega (arith, e, l)

        same : (i : ℕ) → i < length found → get_or found' i 0 ≡ get_or found i 0
        same i h = ap (λ z. get_or z i 0) g.after.1 ∙ get_or_append_left found g.after.0 0 i h

        kept : (x : ℕ) → Contains found x → Contains found' x
        kept x c = subst (λ (z : List ℕ). Contains z x) (sym g.after.1) (let a = g.after.0 in Contains-append_left found a x c)

  module _ (targets : List ℕ) (size : ℕ) (p : ArePositions targets way size positions) (w : IsWayAt names roots targets way)
      (k : ℕ) (inside : k + 1 < length way) (found : List ℕ) (next last : ℕ) (over : length found ≤ next) (f : IsFront names roots way positions k found next last) where
    abbrev here : ℕ
    here = get_or way k 0

    read : (i x : ℕ) → i < length found → get_or found i x ≡ x → get_or found i 0 ≡ x
    read i x lt e = get_or_default found i 0 x lt ∙ e

    -- what an open item names is found
    closed : (x y : ℕ) → Contains found x → IsOpen positions k x → Contains (names x) y → Contains found y
    closed x y (i, lt, e) o c = by (held_at positions x) refl
      where
        same : get_or found i 0 ≡ x
        same = read i x lt e

        by : (h : Option ℕ) → held_at positions x ≡ h → Contains found y
        by None h = f.passed i y (omega (arith, lt, over)) (ap (held_at positions) same ∙ h) (subst (λ v. Contains (names v) y) (sym same) c)
        by (Some j) h = elim (p.from x j h) [
          | inl (t, n) ↦ absurd (let l = o j h in omega (arith, l, n, inside))
          | inr (n, is) ↦ f.opened j y (o j h) (subst (λ v. Contains (names v) y) (sym is) c)
        ]

    most_of : (x j : ℕ) → Contains found x → held_at positions x ≡ Some j → j ≤ last
    most_of x j (i, lt, e) h = f.most i j (omega (arith, lt, over)) (ap (held_at positions) (read i x lt e) ∙ h)

    here_held : held_at positions here ≡ Some k
    here_held = p.way_at k inside

    way_found : (j : ℕ) → j ≤ k → Contains found (get_or way j 0)
    way_found zero le = f.rooted (get_or way 0 0) w.begins
    way_found (suc j) le = f.opened j (get_or way (suc j) 0) (omega (arith, le)) (w.step j (omega (arith, le, inside)))

    last_past : k ≤ last
    last_past = most_of here k (way_found k (omega arith)) here_held

    not_target : ¬ (Contains targets here)
    not_target = w.only k inside

    -- an item that is found before the way's next one is open
    before : last ≡ k → (x j : ℕ) → Contains found x → x ≢ here → held_at positions x ≡ Some j → j < k
    before e x j c other held = elim (cases_eq j k) [
      | inl same ↦ elim (p.from x j held) [
        | inl (is, n) ↦ absurd (omega (arith, same, n, inside))
        | inr (n, is) ↦ absurd (other (sym is ∙ ap (λ z. get_or way z 0) same))
      ]
      | inr differs ↦ let m = most_of x j c held in omega (arith, m, e, differs)
    ]

    no_target : last ≡ k → (t : ℕ) → Contains found t → Contains targets t → ⊥
    no_target e t c h = let m = most_of t (length way - 1) c (p.targets_at t h) in omega (arith, m, e, inside)

    -- so a path to a target goes through the item
    meets : last ≡ k → (x : ℕ) (path : List ℕ) (t : ℕ) → Contains found x → IsPath names x path t → Contains targets t → Contains (x ∷ path) here
    meets e x [] t c v h = elim (cases_eq x here) [
      | inl same ↦ (zero, omega arith, same)
      | inr other ↦ absurd (no_target e t (subst (Contains found) v c) h)
    ]
    meets e x (z ∷ zs) t c v h = elim (cases_eq x here) [
      | inl same ↦ (zero, omega arith, same)
      | inr other ↦
          let r = meets e z zs t (closed x z c (λ j held. before e x j c other held) v.0) v.1 h in
          let lt = r.1 in (suc r.0, omega (arith, lt), r.2)
    ]

    -- another path goes round it
    rest_without : (j : ℕ) → k < j → j < length way → Contains (drop (suc j) way) here → ⊥
    rest_without j less lt (i, within, e) =
        let l = length-drop (suc j) way in
        let n : suc j + i < length way = omega (arith, within, l) in
        w.distinct k (suc j + i) (omega (arith, less)) n
        (sym (sym (get_or-drop (suc j) way i 0) ∙ (get_or_default (drop (suc j) way) i 0 here within ∙ e)))

    open_without : (x : ℕ) → IsOpen positions k here ⊎ (here ≡ x) → here ≢ x → ⊥
    open_without x (inl o) n = let l = o k here_held in omega (arith, l)
    open_without x (inr e) n = n e

    goes_round : k < last → IsOnAllPaths names roots targets here → ⊥
    goes_round less all = elim f.is_last [
      | inl none ↦ omega (arith, none, less)
      | inr (i, lt, held) ↦ by i (let z = f.within in omega (arith, lt, z)) held (f.open_to i (let z = f.within in omega (arith, lt, z)))
    ]
      where
        by : (i : ℕ) → i < length found → held_at positions (get_or found i 0) ≡ Some last → IsOpenTo names roots positions k (get_or found i 0) → ⊥
        by i lt held (r, h, path, v) = elim (p.from (get_or found i 0) last held) [
          | inl (is, n) ↦
              open_without (get_or found i 0)
              (on_open names positions k r path (get_or found i 0) here v (all r (get_or found i 0) path h is (open_path names positions k r path (get_or found i 0) v)))
              (λ e. not_target (subst (Contains targets) (sym e) is))
          | inr (n, is) ↦
              let within : last < length way = omega (arith, n) in
              let whole = path_on names r path (get_or way last 0) (drop (suc last) way) w.target
              (subst (IsPath names r path) (sym is) (open_path names positions k r path (get_or found i 0) v)) (w.rest last within) in
              elim (Contains-append_cases (r ∷ path) (drop (suc last) way) here (all r w.target (path ++ drop (suc last) way) h w.ends whole)) [
                | inl c ↦
                    open_without (get_or found i 0) (on_open names positions k r path (get_or found i 0) here v c)
                    (λ e. w.distinct k last less within (e ∙ sym is))
                | inr c ↦ rest_without last less within c
              ]
        ]

    pub mark_here : IsTrue (eqb last k) ↔ (¬ (Contains targets here) × IsOnAllPaths names roots targets here)
    mark_here = (
      (λ e. (not_target, λ r t path h c v. meets (eqb-true last k e) r path t (f.rooted r h) v c)),
      (λ both. elim (cases_eq last k) [
        | inl same ↦ eq-eqb last k same
        | inr other ↦ absurd (goes_round (let l = last_past in omega (arith, l, other)) both.1)
      ]),
    )

    -- once all are passed, the search goes on from the item
    pub front_open : (found' : List ℕ) (has' : ℕ → Bool) → HasGrown found has' found' (names here) → IsFront names roots way positions (k + 1) found' next last
    front_open found' has' g = record {
      within = let z = f.within in omega (arith, z, grew);
      rooted = λ x c. kept x (f.rooted x c);
      opened = λ j x h c. elim (cases_lt j k) [
        | inl old ↦ kept x (f.opened j x old c)
        | inr now ↦ g.all x (let e : j ≡ k = omega (arith, h, now) in subst (λ v. Contains (names (get_or way v 0)) x) e c)
      ];
      passed = λ i x h e c.
          let lt : i < length found = let z = f.within in omega (arith, h, z) in
          kept x (f.passed i x h (sym (ap (held_at positions) (same i lt)) ∙ e) (subst (λ v. Contains (names v) x) (same i lt) c));
      open_to = λ i h. elim (cases_lt i (length found)) [
        | inl old ↦ opened_more names positions roots k (get_or found' i 0) (subst (IsOpenTo names roots positions k) (sym (same i old)) (f.open_to i old))
        | inr new ↦ elim (g.only (get_or found' i 0) (Contains-get_or found' i 0 h)) [
          | inl (j, lt, e) ↦ opened_more names positions roots k (get_or found' i 0) (subst (IsOpenTo names roots positions k) (read j (get_or found' i 0) lt e) (f.open_to j lt))
          | inr c ↦ opened_on names positions roots (k + 1) here (get_or found' i 0) open_here
              (λ j e. let same : k ≡ j = same_Some k j (sym here_held ∙ e) in omega (arith, same)) c
        ]
      ];
      most = λ i j h e.
          let lt : i < length found = let z = f.within in omega (arith, h, z) in
          f.most i j h (sym (ap (held_at positions) (same i lt)) ∙ e);
      is_last = elim f.is_last [
        | inl none ↦ inl none
        | inr (i, h, e) ↦ inr (i, h, ap (held_at positions) (same i (let z = f.within in omega (arith, h, z))) ∙ e)
      ];
    }
      where
        grew : length found ≤ length found'
        grew = let e = ap length g.after.1 in let l = length-append found g.after.0 in omega (arith, e, l)

        same : (i : ℕ) → i < length found → get_or found' i 0 ≡ get_or found i 0
        same i h = ap (λ z. get_or z i 0) g.after.1 ∙ get_or_append_left found g.after.0 0 i h

        kept : (x : ℕ) → Contains found x → Contains found' x
        kept x c = let a = g.after.0 in subst (λ (z : List ℕ). Contains z x) (sym g.after.1) (Contains-append_left found a x c)

        open_here : IsOpenTo names roots positions (k + 1) here
        open_here =
            let c = way_found k (omega arith) in
            opened_more names positions roots k here (subst (IsOpenTo names roots positions k) (read c.0 here c.1 c.2) (f.open_to c.0 c.1))

-- the last of a way is a target
pub mark_last : (names : ℕ → List ℕ) (roots targets way : List ℕ) → IsWayAt names roots targets way → (k : ℕ) → k + 1 ≡ length way
    → IsTrue false ↔ (¬ (Contains targets (get_or way k 0)) × IsOnAllPaths names roots targets (get_or way k 0))
mark_last names roots targets way w k e = ((λ h. absurd cc), λ both. absurd (both.0 (subst (Contains targets) (sym (w.last k e)) w.ends)))

-- what is kept once, and again, is kept
pub kept_on : (names : ℕ → List ℕ) (a b c : Front) → KeepsFront names a b → KeepsFront names b c → KeepsFront names a c
kept_on names a b c p q = record {
  same = q.same ∙ p.same;
  front = λ roots way k f.
      subst (λ (ps : List (Option ℕ)). IsFront names roots way ps k c.search.order.items c.next c.last) p.same
      (q.front roots way k (subst (λ (ps : List (Option ℕ)). IsFront names roots way ps k b.search.order.items b.next b.last) (sym p.same) (p.front roots way k f)));
}

-- of so many items of a way it is known whether they are marked

abbrev IsMarkAt : (ℕ → List ℕ) → List ℕ → List ℕ → ℕ → Bool → Type 0
IsMarkAt names roots targets x mark = IsTrue mark ↔ (¬ (Contains targets x) × IsOnAllPaths names roots targets x)

pub record AreMarked (names : ℕ → List ℕ) (roots targets way : List ℕ) (count : ℕ) (marks : List Bool) : Type 0 where
  pub each : length marks ≡ count
  pub at : (k : ℕ) → k < count → IsTrue (get_or marks k false) ↔ (¬ (Contains targets (get_or way k 0)) × IsOnAllPaths names roots targets (get_or way k 0))

module _ (names : ℕ → List ℕ) (roots targets way : List ℕ) where
  pub marked_none : AreMarked names roots targets way 0 []
  marked_none = record { each = refl; at = λ k lt. absurd (omega (arith, lt)) }

  pub marked_more : (k : ℕ) (marks : List Bool) (mark : Bool) → AreMarked names roots targets way k marks
      → (IsTrue mark ↔ (¬ (Contains targets (get_or way k 0)) × IsOnAllPaths names roots targets (get_or way k 0)))
      → AreMarked names roots targets way (k + 1) (marks ++ mark ∷ [])
  marked_more k marks mark h m = record {
    each = let l = length_push marks mark in let e = h.each in omega (arith, l, e);
    at = λ j lt. elim (cases_lt j k) [
      | inl old ↦
          let within : j < length marks = let e = h.each in omega (arith, old, e) in
          subst (IsMarkAt names roots targets (get_or way j 0)) (sym (get_or_append_left marks (mark ∷ []) false j within)) (h.at j old)
      | inr past ↦
          let now : k ≡ j = omega (arith, lt, past) in
          subst (IsMarkAt names roots targets (get_or way j 0)) (sym (get_or_push marks mark false j (h.each ∙ now)))
          (subst (λ n. IsMarkAt names roots targets (get_or way n 0) mark) now m)
    ];
  }

  pub marks_all : (marks : List Bool) (count : ℕ) → count ≡ length way → AreMarked names roots targets way count marks → AreDominators names roots targets way marks
  marks_all marks count all h = record {
    each = h.each ∙ all;
    at = λ k x mark e f.
        let lt = slice_get_within way k x e in
        subst (λ z. IsMarkAt names roots targets z mark) (get_or_from_slice_get way k x 0 e)
        (subst (IsMarkAt names roots targets (get_or way k 0)) (get_or_from_slice_get marks k mark false f) (h.at k (omega (arith, lt, all))));
  }
