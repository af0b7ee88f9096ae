-- A walk over exports that asks of each what it depends on.
use Rattle.std.proofs.Common.{◌≡◌, ◌↔◌, ℕ, ◌+◌, Bool, true, false, List, [], ◌∷◌, ◌++◌, map, length, drop, IsTrue, refl, sym, ap, ◌∙◌, subst, append_assoc, length-append}
use Rattle.std.proofs.lemmas.List.{drop-map, drop_at}
use Rattle.wc_resolve.specs.declared.worlds.WorldKey.{WorldKey}
use Rattle.wc_resolve.specs.declared.worlds.WorldItem.{WorldItem}
use Rattle.wc_resolve.specs.Views.{KeyView, ItemView, item_view, world_entry}
use Rattle.wc_resolve.specs.Kinds.{ResolveView}
use Rattle.wc_encoder.specs.Dependencies.{AreDependenciesBefore, DependsOn, IsIndependent}
use Rattle.wc_adapters.specs.Entries.{Entries}
use Rattle.wc_maps.proofs.PairLemmas.{pairs_head, pairs_step}

-- the exports that are left come after so many others, and dependencies come before in all where they do in these
pub record IsDependencyWalk (r : ResolveView) (all_items left : List (WorldKey × WorldItem)) (index : ℕ) : Type 0 where
  pub front : List (WorldKey × WorldItem)
  pub split : all_items ≡ front ++ left
  pub counted : index ≡ length front
  pub same : AreDependenciesBefore r (map world_entry all_items) ↔ AreDependenciesBefore r (map world_entry left)

pub walk_none : (r : ResolveView) (all_items : List (WorldKey × WorldItem)) → IsDependencyWalk r all_items all_items 0
walk_none r all_items = record { front = []; split = refl; counted = refl; same = ((λ h. h), (λ h. h)) }

module _ (r : ResolveView) (all_items left rest : List (WorldKey × WorldItem)) (e : WorldKey × WorldItem) (index : ℕ) (b : Bool)
    (walk : IsDependencyWalk r all_items left index) (next : left ≡ e ∷ rest) (test : IsTrue b ↔ IsIndependent r (item_view e.1) (drop (index + 1) (map world_entry all_items))) where
  all_items_are : all_items ≡ (walk.front ++ e ∷ []) ++ rest
  all_items_are = walk.split ∙ ap (λ z. walk.front ++ z) next ∙ sym (append_assoc walk.front (e ∷ []) rest)

  counted_more : length (walk.front ++ e ∷ []) ≡ index + 1
  counted_more = length-append walk.front (e ∷ []) ∙ ap (λ z. z + 1) (sym walk.counted)

  after : drop (index + 1) (map world_entry all_items) ≡ map world_entry rest
  after =
      drop-map world_entry (index + 1) all_items
      ∙ ap (λ z. map world_entry (drop (index + 1) z)) all_items_are ∙ ap (λ z. map world_entry z) (drop_at (walk.front ++ e ∷ []) rest (index + 1) counted_more)

  rest_test : IsTrue b ↔ IsIndependent r (item_view e.1) (map world_entry rest)
  rest_test = subst (λ (z : Entries). IsTrue b ↔ IsIndependent r (item_view e.1) z) after test

  left_same : AreDependenciesBefore r (map world_entry all_items) ↔ AreDependenciesBefore r (world_entry e ∷ map world_entry rest)
  left_same = subst (λ (z : List (WorldKey × WorldItem)). AreDependenciesBefore r (map world_entry all_items) ↔ AreDependenciesBefore r (map world_entry z)) next walk.same

  pub walk_more : b ≡ true → IsDependencyWalk r all_items rest (index + 1)
  walk_more t =
      let step = pairs_step (λ (x later : KeyView × ItemView). ¬ DependsOn r x.1 later.0) (world_entry e) (map world_entry rest) (rest_test.0 t) in
      record {
        front = walk.front ++ e ∷ [];
        split = all_items_are;
        counted = sym counted_more;
        same = ((λ h. step.0 (left_same.0 h)), (λ h. left_same.1 (step.1 h)));
      }

  pub walk_fails : b ≡ false → IsTrue false ↔ AreDependenciesBefore r (map world_entry all_items)
  walk_fails f = (
    (λ t. absurd (let bad : ⊥ = cc t in bad)),
    (λ h. sym f ∙ rest_test.1 (pairs_head (λ (x later : KeyView × ItemView). ¬ DependsOn r x.1 later.0) (world_entry e) (map world_entry rest) (left_same.0 h))),
  )
