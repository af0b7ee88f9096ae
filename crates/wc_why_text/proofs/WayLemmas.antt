-- The ways that are chosen, one after another.
use Rattle.std.proofs.Common.{◌≡◌, ℕ, ◌+◌, ◌<◌, Bool, true, false, cond, List, [], ◌∷◌, ◌++◌, map, take, length, get_or, Result, Ok, Err, OnOk, sym, ap, ◌∙◌, append-nil}
use Rattle.std.proofs.lemmas.List.{map-append, map_more}
use Rattle.std.proofs.lemmas.List.Elements.{filter-append}
use Rattle.wc_why.specs.Tree.{TreeWayView, tree_way_view}
use Rattle.wc_why.specs.declared.tree.TreeWay.{TreeWay}
use Rattle.wc_why_text.specs.Ways.{chosen_ways, is_chosen}

-- one is chosen, or not

module _ (imports : Bool) (way : TreeWay) (old : List TreeWay) where
  pub one_put : {E : Type 0} (new : List TreeWay) (r : Result (Unit {0}) E) → is_chosen imports (tree_way_view way) ≡ true
      → OnOk r (new ≡ old ++ way ∷ []) → OnOk r (map tree_way_view new ≡ map tree_way_view old ++ chosen_ways imports (tree_way_view way ∷ []))
  one_put new (Ok u) is put =
      ap (map tree_way_view) put ∙ map-append tree_way_view old (way ∷ [])
      ∙ ap (λ (b : Bool). map tree_way_view old ++ cond b (tree_way_view way ∷ []) []) (sym is)
  one_put new (Err e) is put = tt

  pub none_put : is_chosen imports (tree_way_view way) ≡ false → map tree_way_view old ≡ map tree_way_view old ++ chosen_ways imports (tree_way_view way ∷ [])
  none_put is =
      sym (append-nil (map tree_way_view old)) ∙ ap (λ (b : Bool). map tree_way_view old ++ cond b (tree_way_view way ∷ []) []) (sym is)

-- those of so many, and of one more
pub chosen_more : (imports : Bool) (ways : List TreeWay) (i : ℕ) (d : TreeWay) (old new : List TreeWay) → i < length ways
    → map tree_way_view old ≡ chosen_ways imports (map tree_way_view (take i ways))
    → map tree_way_view new ≡ map tree_way_view old ++ chosen_ways imports (tree_way_view (get_or ways i d) ∷ [])
    → map tree_way_view new ≡ chosen_ways imports (map tree_way_view (take (i + 1) ways))
chosen_more imports ways i d old new within before put =
    let way : TreeWayView = tree_way_view (get_or ways i d) in
    put ∙ ap (λ l. l ++ chosen_ways imports (way ∷ [])) before
    ∙ sym (filter-append (is_chosen imports) (map tree_way_view (take i ways)) (way ∷ []))
    ∙ ap (chosen_ways imports) (sym (map_more tree_way_view ways i d within))
