-- Marks of types.
use Rattle.std.proofs.Common.{◌≡◌, Bool, true, false, ℕ, ◌<◌, List, [], ◌∷◌, ◌++◌, map, length, set, sym, ◌∙◌, subst, inl, inr}
use Rattle.std.specs.List.{Contains}
use Rattle.std.proofs.lemmas.Bool.{cases_eq}
use Rattle.std.proofs.lemmas.List.{get_or-set_same, get_or-set_other, map-append}
use Rattle.std.proofs.lemmas.List.Elements.{Contains-append_left, Contains-push, Contains-push_cases}
use Rattle.wc_resolve.specs.declared.ids.TypeId.{TypeId}
use Rattle.wc_resolve.specs.Marks.{AreMarks, is_marked}
use Rattle.wc_resolve.specs.Roots.{id_index}
use Rattle.wc_maps.proofs.ListLemmas.{contains_none}

-- no type is marked
pub marks_none : AreMarks [] []
marks_none x = ((λ t. (let bad : ⊥ = cc t in absurd bad)), (λ h. absurd (contains_none x h)))

-- the same marks in a longer list
pub marks_same : (old new : List Bool) (types : List ℕ) → AreMarks old types → ((x : ℕ) → is_marked new x ≡ is_marked old x) → AreMarks new types
marks_same old new types h same x = ((λ t. (h x).0 (sym (same x) ∙ t)), (λ k. same x ∙ (h x).1 k))

marked_more : (marks : List Bool) (types : List ℕ) (y : ℕ) → AreMarks marks types → y < length marks → AreMarks (set marks y true) (types ++ y ∷ [])
marked_more marks types y h small x = elim (cases_eq x y) [
  | inl same ↦ (
    (λ t. subst (Contains (types ++ y ∷ [])) (sym same) (Contains-push types y)),
    (λ k. subst (λ (z : ℕ). is_marked (set marks y true) z ≡ true) (sym same) (get_or-set_same marks y true false small)),
  )
  | inr other ↦ (
    (λ t. Contains-append_left types (y ∷ []) x ((h x).0 (sym (get_or-set_other marks y x true false other) ∙ t))),
    (λ k. elim (Contains-push_cases types y x k) [
      | inl old ↦ get_or-set_other marks y x true false other ∙ (h x).1 old
      | inr itself ↦ absurd (other (sym itself))
    ]),
  )
]

-- a type is appended and marked
pub marks_more : (marks : List Bool) (ids : List TypeId) (id : TypeId) → AreMarks marks (map id_index ids) → id.0 < length marks
    → AreMarks (set marks id.0 true) (map id_index (ids ++ id ∷ []))
marks_more marks ids id h small =
    subst (λ (z : List ℕ). AreMarks (set marks id.0 true) z) (sym (map-append id_index ids (id ∷ []))) (marked_more marks (map id_index ids) id.0 h small)
