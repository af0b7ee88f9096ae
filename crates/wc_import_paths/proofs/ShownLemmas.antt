-- The ends of paths, and the ways to them, one after another.
use Rattle.std.proofs.Common.{◌≡◌, ◌∙◌, ℕ, ◌<◌, Bool, true, false, List, [], ◌∷◌, ◌++◌, cond, length, map, get_or, option_map, Option, Some, ap, append-nil, subst, sym}
use Rattle.std.specs.Prelude.{◌||◌}
use Rattle.std.proofs.lemmas.List.{map-append}
use Rattle.std.proofs.lemmas.Option.{slice_get-get_or, slice_get-map}
use Rattle.std.specs.List.{slice_get}
use Rattle.std.specs.Option.{option_map_or}
use Rattle.wc_read.specs.Imports.{ImportValue}
use Rattle.wc_paths.specs.Callers.{calling_of}
use Rattle.wc_paths.specs.Items.{CountsValue}
use Rattle.wc_paths.specs.Roots.{import_item}
use Rattle.wc_paths.specs.declared.items.PathItem.{PathItem}
use Rattle.wc_why.specs.Part.{PartView}
use Rattle.wc_why.specs.Tree.{TreeCallerView, TreeView, TreeWayView, tree_way_view}
use Rattle.wc_why.specs.declared.component.End.{End}
use Rattle.wc_why.specs.declared.tree.TreeWay.{TreeWay}
use Rattle.wc_import_paths.specs.Followed.{HasPaths, followed_view}
use Rattle.wc_import_paths.specs.Parts.{IsFollowedPart}
use Rattle.wc_import_paths.specs.Patterns.{PatternView, are_asked}
use Rattle.wc_import_paths.specs.Shown.{EndView, IsFollowedTree, IsTreeTo, are_functions, end_at, end_view, has_way, import_end, import_end_at, shown_ends, tested_end, way_at, way_of, ways_of}
use Rattle.wc_import_paths.specs.declared.followed.Followed.{Followed}
use Rattle.wc_import_paths.specs.declared.shown.ShownEnd.{ShownEnd}

-- an element of a list, as it is seen
pub at_view : {R A : Type 0} (v : R → A) (xs : List R) (k : ℕ) (d : R) → k < length xs → slice_get (map v xs) k ≡ Some (v (get_or xs k d))
at_view v xs k d lt = slice_get-map v xs k ∙ ap (option_map v) (slice_get-get_or xs k d lt)

-- an import at a position, if it passes a test
pub end_put : (part : ℕ) (c : CountsValue) (p : ImportValue → Bool) (imports : List ImportValue) (k : ℕ) (i : ImportValue) → slice_get imports k ≡ Some i
    → (b : Bool) → b ≡ p i → (x : PathItem) → x ≡ import_item imports k i → (old new : List EndView) → new ≡ old ++ cond b (import_end part c i x) []
    → new ≡ old ++ import_end_at part c p imports k
end_put part c p imports k i at b eb x ex old new put =
    put ∙ ap (λ z. old ++ z) ((λ t. cond (eb t) (import_end part c i (ex t)) []) ∙ sym (ap (λ o. option_map_or (tested_end part c p imports k) o []) at))

-- the way to the end at a position, if there is one
module _ (w : Bool) (shown : List ShownEnd) (ends : List (Option End)) (k : ℕ) (d : ShownEnd) (lt : k < length shown) (e : Option End)
    (is : e ≡ end_at ends k)
  where
    at_is : way_at w (map end_view shown) ends k ≡ ways_of w (end_view (get_or shown k d)) e
    at_is =
        ap (λ o. option_map_or (λ (x : EndView). ways_of w x (end_at ends k)) o []) (at_view end_view shown k d lt)
        ∙ ap (ways_of w (end_view (get_or shown k d))) (sym is)

    pub way_none : (old : List TreeWayView) → has_way w (end_view (get_or shown k d)) e ≡ false → old ≡ old ++ way_at w (map end_view shown) ends k
    way_none old off =
        sym (ap (λ z. old ++ z) (at_is ∙ ap (λ b. cond b (way_of (end_view (get_or shown k d)) e ∷ []) []) off) ∙ append-nil old)

    pub way_put : (old new : List TreeWay) (x : TreeWay) → has_way w (end_view (get_or shown k d)) e ≡ true → new ≡ old ++ x ∷ []
        → tree_way_view x ≡ way_of (end_view (get_or shown k d)) e → map tree_way_view new ≡ map tree_way_view old ++ way_at w (map end_view shown) ends k
    way_put old new x on put way =
        ap (map tree_way_view) put
        ∙ (map-append tree_way_view old (x ∷ [])
        ∙ ap (λ z. map tree_way_view old ++ z)
        (ap (λ z. z ∷ []) way ∙ sym (at_is ∙ ap (λ b. cond b (way_of (end_view (get_or shown k d)) e ∷ []) []) on)))

-- the tree of a module that stands alone
pub followed_tree : (f : Followed) (patterns : List PatternView) (fs : List TreeCallerView) → HasPaths f → (part : PartView)
    → IsFollowedPart (followed_view f) f.bytes.now (calling_of f.callers) false part → (parts : List PartView) → parts ≡ part ∷ []
    → (shown : List EndView) → shown ≡ shown_ends patterns f.reached.items fs part.counts (followed_view f).code.imports → (marked : Bool)
    → marked ≡ (are_asked patterns || are_functions fs) → (unreached : Bool) → unreached ≡ are_asked patterns → (t : TreeView)
    → IsTreeTo parts shown marked unreached t → IsFollowedTree (followed_view f) f.bytes.now patterns fs t
followed_tree f patterns fs h part is parts ep shown es marked em unreached eu t tree = record {
  calling = calling_of f.callers;
  calls = h.calling;
  reached = f.reached.items;
  are_reached = h.reached;
  part = part;
  is_part = is;
  tree = subst (λ z. IsTreeTo z (shown_ends patterns f.reached.items fs part.counts (followed_view f).code.imports)
      (are_asked patterns || are_functions fs) (are_asked patterns) t) ep
      (subst (λ z. IsTreeTo parts z (are_asked patterns || are_functions fs) (are_asked patterns) t) es
      (subst (λ z. IsTreeTo parts shown z (are_asked patterns) t) em (subst (λ z. IsTreeTo parts shown marked z t) eu tree)));
}
