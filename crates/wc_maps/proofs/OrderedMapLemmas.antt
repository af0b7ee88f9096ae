-- Positions of keys.
use Rattle.std.proofs.Common.{◌≡◌, ℕ, zero, suc, ◌<◌, Bool, true, false, cond, List, [], ◌∷◌, ◌++◌, length, slice_index_or, slice_set, Option, Some, None, refl, sym, ap, ◌∙◌, arith}
use Rattle.std.specs.declared.cmp.Ordering.{Ordering}
use Rattle.std.specs.Cmp.{IsTotalOrder}
use Rattle.std.specs.Ordering.{is_eq}
use Rattle.std.specs.Option.{option_map, option_or}
use Rattle.std.specs.Map.{lookup}
use Rattle.std.specs.BTreeMap.{BTreeMap, get}
use Rattle.std.proofs.lemmas.Cmp.{eq_by_cmp_equiv}
use Rattle.indexmap.specs.IndexMap.{insert_entry}
use Rattle.wc_maps.specs.OrderedMap.{first_position, ArePositions}

before : (o : Option ℕ) (i : ℕ) → option_map suc o ≡ Some i → (j : ℕ) × (o ≡ Some j) × (i ≡ suc j)
before None i s = absurd cc
before (Some j) i s = (j, refl, cc)

none_before : (o : Option ℕ) → option_map suc o ≡ None → o ≡ None
none_before None s = refl
none_before (Some j) s = absurd cc

module _ {K V : Type 0} where
  pub position_within : (t : K → Bool) (es : List (K × V)) (i : ℕ) → first_position t es ≡ Some i → i < length es
  position_within t [] i h = absurd cc
  position_within t (e ∷ es) i h =
      elim (t e.0) as (λ b. cond b (Some 0) (option_map suc (first_position t es)) ≡ Some i → i < length (e ∷ es)) [
        | true ↦ λ s. let same : 0 ≡ i = cc in omega (arith, same)
        | false ↦ λ s. let n = before (first_position t es) i s in let less = position_within t es n.0 n.1 in omega (arith, n.2, less)
      ] h

  -- the value at a key's position is the key's
  pub value_at_position : (t : K → Bool) (es : List (K × V)) (i : ℕ) (x : K × V) → first_position t es ≡ Some i → x ≡ slice_index_or es i x → Some x.1 ≡ lookup t es
  value_at_position t [] i x h at = absurd cc
  value_at_position t (e ∷ es) i x h at =
      elim (t e.0) as (λ b. cond b (Some 0) (option_map suc (first_position t es)) ≡ Some i → Some x.1 ≡ cond b (Some e.1) (lookup t es)) [
        | true ↦ λ s. let same : i ≡ 0 = cc in let is : x ≡ e = rw same at at in ap (λ (y : K × V). Some y.1) is
        | false ↦ λ s. let n = before (first_position t es) i s in value_at_position t es n.0 x n.1 (rw n.2 at at)
      ] h

  pub no_value : (t : K → Bool) (es : List (K × V)) → first_position t es ≡ None → None ≡ lookup t es
  no_value t [] h = refl
  no_value t (e ∷ es) h =
      elim (t e.0) as (λ b. cond b (Some 0) (option_map suc (first_position t es)) ≡ None → None ≡ cond b (Some e.1) (lookup t es)) [
        | true ↦ λ s. absurd cc
        | false ↦ λ s. no_value t es (none_before (first_position t es) s)
      ] h

  -- another value at a position moves no key
  pub positions_stay : (t : K → Bool) (es : List (K × V)) (i : ℕ) (x : K × V) (v : V) → x ≡ slice_index_or es i x → first_position t es ≡ first_position t (slice_set es i (x.0, v))
  positions_stay t [] i x v at = refl
  positions_stay t (e ∷ es) zero x v at = ap (λ (y : K × V). cond (t y.0) (Some 0) (option_map suc (first_position t es))) (sym at)
  positions_stay t (e ∷ es) (suc i) x v at = ap (λ o. cond (t e.0) (Some 0) (option_map suc o)) (positions_stay t es i x v at)

  pub replaced : (eq : K → K → Bool) (es : List (K × V)) (k : K) (i : ℕ) (x : K × V) (v : V) → first_position (eq k) es ≡ Some i → x ≡ slice_index_or es i x → slice_set es i (x.0, v) ≡ insert_entry eq es k v
  replaced eq [] k i x v h at = absurd cc
  replaced eq (e ∷ es) k i x v h at =
      elim (eq k e.0) as (λ b. cond b (Some 0) (option_map suc (first_position (eq k) es)) ≡ Some i → slice_set (e ∷ es) i (x.0, v) ≡ cond b ((e.0, v) ∷ es) (e ∷ insert_entry eq es k v)) [
        | true ↦ λ s. let same : i ≡ 0 = cc in let is : x ≡ e = rw same at at in rw same (ap (λ (y : K × V). (y.0, v) ∷ es) is)
        | false ↦ λ s. let n = before (first_position (eq k) es) i s in rw n.2 (ap (λ r. e ∷ r) (replaced eq es k n.0 x v n.1 (rw n.2 at at)))
      ] h

  pub put_last : (eq : K → K → Bool) (es : List (K × V)) (k : K) (v : V) → first_position (eq k) es ≡ None → es ++ (k, v) ∷ [] ≡ insert_entry eq es k v
  put_last eq [] k v h = refl
  put_last eq (e ∷ es) k v h =
      elim (eq k e.0) as (λ b. cond b (Some 0) (option_map suc (first_position (eq k) es)) ≡ None → e ∷ (es ++ (k, v) ∷ []) ≡ cond b ((e.0, v) ∷ es) (e ∷ insert_entry eq es k v)) [
        | true ↦ λ s. absurd cc
        | false ↦ λ s. ap (λ r. e ∷ r) (put_last eq es k v (none_before (first_position (eq k) es) s))
      ] h

  position_after : (t : K → Bool) (es : List (K × V)) (k : K) (v : V) → first_position t (es ++ (k, v) ∷ []) ≡ option_or (first_position t es) (cond (t k) (Some (length es)) None)
  position_after t [] k v = refl
  position_after t (e ∷ es) k v =
      elim (t e.0) as (λ b. cond b (Some 0) (option_map suc (first_position t (es ++ (k, v) ∷ []))) ≡ option_or (cond b (Some 0) (option_map suc (first_position t es))) (cond (t k) (Some (suc (length es))) None))
      [ true ↦ refl | false ↦ ap (option_map suc) (position_after t es k v) ∙ next (first_position t es) (t k) ] where
        next : (o : Option ℕ) (b : Bool) → option_map suc (option_or o (cond b (Some (length es)) None)) ≡ option_or (option_map suc o) (cond b (Some (suc (length es))) None)
        next None true = refl
        next None false = refl
        next (Some i) b = refl

  same_position : (t u : K → Bool) → ((z : K) → t z ≡ u z) → (es : List (K × V)) → first_position t es ≡ first_position u es
  same_position t u h [] = refl
  same_position t u h (e ∷ es) = ap (λ b. cond b (Some 0) (option_map suc (first_position t es))) (h e.0) ∙ ap (λ o. cond (u e.0) (Some 0) (option_map suc o)) (same_position t u h es)

  module _ {eq : K → K → Bool} {cmp : K → K → Ordering} (o : IsTotalOrder cmp) (ties : (x y : K) → eq x y ≡ is_eq (cmp x y)) (old new : BTreeMap K ℕ) (es : List (K × V)) (k : K) (v : V)
      (was : ArePositions eq cmp old es) (absent : first_position (eq k) es ≡ None) (put : (q : K) → get cmp new q ≡ cond (is_eq (cmp k q)) (Some (length es)) (get cmp old q)) where
    symm : (x y : K) → eq x y ≡ eq y x
    symm x y = ties x y ∙ (eq_by_cmp_equiv o).symm x y ∙ sym (ties y x)

    like : (q : K) → eq q k ≡ true → (z : K) → eq q z ≡ eq k z
    like q e z = ties q z ∙ (eq_by_cmp_equiv o).congr q k z (sym (ties q k) ∙ e) ∙ sym (ties k z)

    or_none : (r : Option ℕ) → option_or r None ≡ r
    or_none None = refl
    or_none (Some x) = refl

    after : (q : K) (b : Bool) → eq q k ≡ b → cond b (Some (length es)) (get cmp old q) ≡ option_or (first_position (eq q) es) (cond b (Some (length es)) None)
    after q true e = ap (λ r. option_or r (Some (length es))) (sym (same_position (eq q) (eq k) (like q e) es ∙ absent))
    after q false e = was q ∙ sym (or_none (first_position (eq q) es))

    -- the positions with that of a new key
    pub positions_more : ArePositions eq cmp new (es ++ (k, v) ∷ [])
    positions_more q =
        put q ∙ ap (λ b. cond b (Some (length es)) (get cmp old q)) (sym (ties k q) ∙ symm k q)
        ∙ after q (eq q k) refl ∙ sym (position_after (eq q) es k v)
