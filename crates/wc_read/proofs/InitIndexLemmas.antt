-- An initialiser of one operator leaves one value where the operator does.
use Rattle.std.proofs.Common.{◌≡◌, ℕ, List, [], ◌∷◌, ◌++◌, length, Option, Some, None, refl, sym, ◌∙◌, ap, subst, arith, length-append}
use Rattle.wc_read.specs.Operators.{InstrValue}
use Rattle.wc_read.specs.Inits.{end_value, SpellsInit}
use Rattle.wc_read.specs.InitTypes.{InitScope, IsTyped}
use Rattle.wc_read.specs.BodyOperators.{IsSpelled, init_in}
use Rattle.wc_read.specs.Reading.InitTypes.{next_depth}
use Rattle.wc_read.specs.declared.types.ValType.{ValType}
use Rattle.wc_read.proofs.OptionsLemmas.{some_same, some_none}
use Rattle.wc_read.proofs.DecodingLemmas.{init_found, init_spelled}
use Rattle.wc_read.proofs.InitDepthsLemmas.{depth_after, depth_more, depth_fails, depth_none, depth_same, one_from_depth, depth_from_one}

front_of : (front : List InstrValue) (x y z : InstrValue) → front ++ (z ∷ []) ≡ x ∷ y ∷ [] → front ≡ x ∷ []
front_of [] x y z e = absurd (omega (arith, ap length e))
front_of (a ∷ []) x y z e = let h : a ≡ x = cc in ap (λ (i : InstrValue). i ∷ []) h
front_of (a ∷ b ∷ c) x y z e = absurd (omega (arith, ap length e, length-append c (z ∷ [])))

module _ (scope : InitScope) (t : ValType) where
  pub one_typed : (bytes : List ℕ) (i : InstrValue) → init_in bytes ≡ Some (i ∷ end_value ∷ []) → next_depth scope t 0 i ≡ Some 1 → IsTyped scope t bytes
  one_typed bytes i found e = record {
    operators = i ∷ end_value ∷ [];
    front = i ∷ [];
    has_operators = subst (IsSpelled SpellsInit bytes) found (init_spelled bytes);
    cut = refl;
    leaves = one_from_depth scope t (i ∷ []) (depth_more scope t 0 1 i [] e ∙ depth_same scope t 1);
  }

  pub typed_one : (bytes : List ℕ) (i : InstrValue) → init_in bytes ≡ Some (i ∷ end_value ∷ []) → IsTyped scope t bytes → next_depth scope t 0 i ≡ Some 1
  typed_one bytes i found typed =
      let same : typed.operators ≡ i ∷ end_value ∷ [] = some_same typed.operators (i ∷ end_value ∷ []) (sym (init_found bytes typed.operators typed.has_operators) ∙ found) in
      let front : typed.front ≡ i ∷ [] = front_of typed.front i end_value end_value (sym typed.cut ∙ same) in
      by (next_depth scope t 0 i) refl (sym (ap (depth_after scope t 0) front) ∙ depth_from_one scope t typed.front typed.leaves)
    where
      by : (o : Option ℕ) → next_depth scope t 0 i ≡ o → depth_after scope t 0 (i ∷ []) ≡ Some 1 → next_depth scope t 0 i ≡ Some 1
      by None none c = some_none 1 (sym c ∙ depth_fails scope t 0 i [] none)
      by (Some d) e c = e ∙ ap Some (depth_none scope t d 1 (sym (depth_more scope t 0 d i [] e) ∙ c))
