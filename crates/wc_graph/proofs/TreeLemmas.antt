-- Positions of items, noted one after another.
use Rattle.std.proofs.Common.{◌≡◌, ◌≢◌, ℕ, ◌+◌, ◌<◌, ◌≤◌, List, length, set, get_or, Option, Some, None, refl, sym, ◌∙◌, ap, subst, inl, inr, arith}
use Rattle.std.proofs.Common.{get_or-set_same, get_or-set_other}
use Rattle.std.specs.Prelude.{Contains, MatchOption}
use Rattle.std.specs.List.{slice_get}
use Rattle.std.proofs.lemmas.Bool.{cases_eq, cases_lt}
use Rattle.std.proofs.lemmas.List.{get_or_default, length-set}
use Rattle.std.proofs.lemmas.Option.{get_or_from_slice_get, slice_get_read}
use Rattle.wc_maps.proofs.OptionLemmas.{some_none}
use Rattle.std.proofs.lemmas.Option.{same_Some as some_same}
use Rattle.wc_graph.specs.Tree.{ArePlaces}

-- the positions below `next` are noted
pub record PlacedTo (order : List ℕ) (size : ℕ) (places : List (Option ℕ)) (next : ℕ) : Type 0 where
  pub sized : length places ≡ size
  pub there : (x k : ℕ) → get_or places x None ≡ Some k → (k < length order) × (get_or order k 0 ≡ x)
  pub missing : (x : ℕ) → get_or places x None ≡ None → (j : ℕ) → j < next → get_or order j 0 ≢ x

pub placed_more : (order : List ℕ) (size : ℕ) (places : List (Option ℕ)) (next : ℕ) → next < length order → get_or order next 0 < size
    → PlacedTo order size places next → PlacedTo order size (set places (get_or order next 0) (Some next)) (next + 1)
placed_more order size places next lt within p =
    let item = get_or order next 0 in
    let z = p.sized in
    let inside : item < length places = omega (arith, within, z) in
    record {
      sized = length-set places item (Some next) ∙ p.sized;
      there = λ x k e. elim (cases_eq x item) [
        | inl same ↦
            let now : Some next ≡ Some k =
            sym (get_or-set_same places item (Some next) None inside) ∙ (ap (λ n. get_or (set places item (Some next)) n None) (sym same) ∙ e) in
            let k_is : next ≡ k = some_same next k now in
            (subst (λ n. n < length order) k_is lt, ap (λ n. get_or order n 0) (sym k_is) ∙ sym same)
        | inr other ↦ p.there x k (sym (get_or-set_other places item x (Some next) None other) ∙ e)
      ];
      missing = λ x e j less h. elim (cases_eq x item) [
        | inl same ↦
            some_none next
            (sym (get_or-set_same places item (Some next) None inside) ∙ (ap (λ n. get_or (set places item (Some next)) n None) (sym same) ∙ e))
        | inr other ↦ elim (cases_lt j next) [
          | inl before ↦ p.missing x (sym (get_or-set_other places item x (Some next) None other) ∙ e) j before h
          | inr past ↦ other (sym h ∙ ap (λ n. get_or order n 0) (let same : j ≡ next = omega (arith, less, past) in same))
        ]
      ];
    }

pub placed_all : (order : List ℕ) (size : ℕ) (places : List (Option ℕ)) (next : ℕ) → length order ≤ next → PlacedTo order size places next
    → ArePlaces order size places
placed_all order size places next over p = record {
  each = p.sized;
  at = λ x place e. by x place (get_or_from_slice_get places x place None e);
}
  where
    by : (x : ℕ) (place : Option ℕ) → get_or places x None ≡ place → MatchOption place (¬ (Contains order x)) (λ k. slice_get order k ≡ Some x)
    by x None e = λ (j, lt, h). p.missing x e j (omega (arith, lt, over)) (get_or_default order j 0 x lt ∙ h)
    by x (Some k) e =
        let t = p.there x k e in
        slice_get_read order (length order) k x refl t.0 (sym t.1 ∙ get_or_default order k 0 x t.0)
