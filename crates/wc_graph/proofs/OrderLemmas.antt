-- A search finds things in the order in which they are named.
use Rattle.std.proofs.Common.{◌≡◌, ℕ, ◌+◌, ◌-◌, ◌<◌, ◌≤◌, List, [], ◌++◌, length, replicate, sym, ◌∙◌, ap, subst, Bool, inl, inr}
use Rattle.std.proofs.Common.{arith, get_or}
use Rattle.std.specs.Prelude.{Contains}
use Rattle.std.proofs.lemmas.List.{get_or_append_left, get_or-append_right, get_or-replicate, get_or_default}
use Rattle.std.proofs.lemmas.Bool.{cases_lt}
use Rattle.wc_graph.specs.ShortestChains.{IsBefore}
use Rattle.wc_graph.specs.Growth.{HasGrown}
use Rattle.wc_graph.specs.Finders.{IsTree, IsOrdered}
use Rattle.wc_graph.proofs.ShortestLemmas.{deeper, deeper_old, deeper_new}

module _ {X : Type 0} where
  pub order_start : (names : X → List X) (roots : List X) (has : X → Bool) (found : List X) (finder : List ℕ) → HasGrown [] has found roots
      → IsOrdered names roots found finder (λ k. 0) 0
  order_start names roots has found finder g = record {
    behind = λ k h l. absurd (omega (arith, l));
    rising = λ i j h k l. absurd (omega (arith, l));
    roots_ordered = λ i j d h k e. g.ordered i j d (omega arith) h k;
    names_ordered = λ i j d h k l e. absurd (omega (arith, l));
    none_before = λ k j d h l b c. absurd (omega (arith, l));
  }

  pub order_step : (names : X → List X) (roots found : List X) (finder : List ℕ) (depth : ℕ → ℕ) (next : ℕ) (has' : X → Bool) (found' : List X) (x : X)
      → next < length found → ((d : X) → get_or found next d ≡ x) → IsTree names roots found finder depth next
      → IsOrdered names roots found finder depth next → HasGrown found has' found' (names x)
      → IsOrdered names roots found' (finder ++ replicate (length found' - length found) next) (deeper depth (length found) next) (next + 1)
  order_step names roots found finder depth next has' found' x lt at s o g = record {
    behind = λ k h l. elim (cases_lt k (length found)) [
      | inl old ↦ let e = finder_old k old in let b = o.behind k old (deep_old k old l) in omega (arith, e, b)
      | inr new ↦ let e = finder_new k new h in omega (arith, e)
    ];
    rising = λ i j h k l. elim (cases_lt j (length found)) [
      | inl old ↦ let il : i < length found = omega (arith, h, old) in
          let a = finder_old i il in let b = finder_old j old in let r = o.rising i j h old (deep_old i il l) in omega (arith, a, b, r)
      | inr new ↦ let b = finder_new j new k in elim (cases_lt i (length found)) [
        | inl il ↦ let a = finder_old i il in let r = o.behind i il (deep_old i il l) in omega (arith, a, b, r)
        | inr more ↦ let a = finder_new i more (omega (arith, h, k)) in omega (arith, a, b)
      ]
    ];
    roots_ordered = λ i j d h k e. elim (cases_lt j (length found)) [
      | inl old ↦ let il : i < length found = omega (arith, h, old) in
          subst (λ z. IsBefore roots z (get_or found' j d)) (sym (same i d il))
          (subst (λ z. IsBefore roots (get_or found i d) z) (sym (same j d old))
          (o.roots_ordered i j d h old (sym (deeper_old depth (length found) next j old) ∙ e)))
      | inr new ↦ let q = deeper_new depth (length found) next j new in absurd (omega (arith, q, e))
    ];
    names_ordered = λ i j d h k l e. elim (cases_lt j (length found)) [
      | inl old ↦ let il : i < length found = omega (arith, h, old) in old_order i j d h il old (deep_old i il l) e
      | inr new ↦ elim (cases_lt i (length found)) [
        | inl il ↦ let a = finder_old i il in let b = finder_new j new k in let r = o.behind i il (deep_old i il l) in absurd (omega (arith, a, b, r, e))
        | inr more ↦ let ik : i < length found' = omega (arith, h, k) in
            subst (λ z. IsBefore (names (get_or found' z d)) (get_or found' i d) (get_or found' j d)) (sym (finder_new i more ik))
            (subst (λ z. IsBefore (names z) (get_or found' i d) (get_or found' j d)) (sym (same next d lt ∙ at d)) (g.ordered i j d more h k))
      ]
    ];
    none_before = λ k j d h l b c. elim (cases_lt k (length found)) [
      | inl old ↦ let e = finder_old k old in let q = o.behind k old (deep_old k old l) in
          let jb : j < get_or finder k 0 = omega (arith, b, e) in
          let jl : j < length found = omega (arith, jb, q, lt) in
          o.none_before k j d old (deep_old k old l) jb
          (subst (λ z. Contains (names z) (get_or found k d)) (same j d jl) (subst (Contains (names (get_or found' j d))) (same k d old) c))
      | inr new ↦ let e = finder_new k new h in
          let jn : j < next = omega (arith, b, e) in
          let jl : j < length found = omega (arith, jn, lt) in
          let p = s.passed j d (get_or found' k d) jn (subst (λ z. Contains (names z) (get_or found' k d)) (same j d jl) c) in
          let pl = p.1 in
          let pk : p.0 < k = omega (arith, pl, new) in
          g.tied.distinct p.0 k (get_or found' k d) pk h
          (same p.0 (get_or found' k d) pl ∙ (p.2 ∙ get_or_default found' k d (get_or found' k d) h))
    ];
  }
    where
      same : (k : ℕ) (d : X) → k < length found → get_or found' k d ≡ get_or found k d
      same k d h = ap (λ z. get_or z k d) g.after.1 ∙ get_or_append_left found g.after.0 d k h

      deep_old : (k : ℕ) → k < length found → 0 < deeper depth (length found) next k → 0 < depth k
      deep_old k h l = subst (λ z. 0 < z) (deeper_old depth (length found) next k h) l

      finder_old : (k : ℕ) → k < length found → get_or (finder ++ replicate (length found' - length found) next) k 0 ≡ get_or finder k 0
      finder_old k h = let z = s.sized in get_or_append_left finder (replicate (length found' - length found) next) 0 k (omega (arith, z))

      finder_new : (k : ℕ) → length found ≤ k → k < length found' → get_or (finder ++ replicate (length found' - length found) next) k 0 ≡ next
      finder_new k h l =
          let z = s.sized in
          get_or-append_right finder (replicate (length found' - length found) next) (length found) k 0 z h
          ∙ get_or-replicate (length found' - length found) (k - length found) next 0 (omega arith)

      old_order : (i j : ℕ) (d : X) → i < j → i < length found → j < length found → 0 < depth i
          → get_or (finder ++ replicate (length found' - length found) next) i 0 ≡ get_or (finder ++ replicate (length found' - length found) next) j 0
          → IsBefore (names (get_or found' (get_or (finder ++ replicate (length found' - length found) next) i 0) d)) (get_or found' i d) (get_or found' j d)
      old_order i j d h il jl l e =
          let fi = finder_old i il in
          let fj = finder_old j jl in
          let b = o.behind i il l in
          let fl : get_or finder i 0 < length found = omega (arith, b, lt) in
          subst (λ z. IsBefore (names (get_or found' z d)) (get_or found' i d) (get_or found' j d)) (sym fi)
          (subst (λ z. IsBefore (names z) (get_or found' i d) (get_or found' j d)) (sym (same (get_or finder i 0) d fl))
          (subst (λ z. IsBefore (names (get_or found (get_or finder i 0) d)) z (get_or found' j d)) (sym (same i d il))
          (subst (λ z. IsBefore (names (get_or found (get_or finder i 0) d)) (get_or found i d) z) (sym (same j d jl))
          (o.names_ordered i j d h jl l (sym fi ∙ (e ∙ fj))))))
