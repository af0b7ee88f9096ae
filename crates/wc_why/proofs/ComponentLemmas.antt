-- The tree of a component, put together.
use Rattle.std.proofs.Common.{◌≡◌, ℕ, ◌<◌, List, length, map, get_or, Bool, true, Option, Some, None, refl, sym, ◌∙◌, ap, subst, arith}
use Rattle.std.specs.Prelude.{All, Contains}
use Rattle.std.specs.List.{slice_get}
use Rattle.std.specs.Option.{option_and_then, option_map}
use Rattle.std.proofs.lemmas.List.{length-map}
use Rattle.std.proofs.lemmas.Option.{get_or_from_slice_get, same_Some, slice_get-get_or, slice_get-map, slice_get_within}
use Rattle.std.specs.declared.alloc.Global.{Global}
use Rattle.std.specs.declared.vec.Vec.{Vec}
use Rattle.std.proofs.lemmas.List.Elements.{All-contains}
use Rattle.wc_why.specs.Component.{AreEnds, AreModules, IsComponentTree, IsEndAt, IsMark, IsShownAt, ShownView, asked_items, position_in, target_item}
use Rattle.wc_why.specs.Graph.{has_item, names_in}
use Rattle.wc_why.specs.Part.{PartView, part_view}
use Rattle.wc_why.specs.Paths.{ArePaths, IsEndOf, IsReadBack, begins, goes_on}
use Rattle.wc_why.specs.Tree.{TreeModuleView, tree_module_view}
use Rattle.wc_why.specs.Private.Components.{IsComponent}
use Rattle.wc_why.specs.Private.Graph.{AreLinked, names_by}
use Rattle.wc_why.specs.Private.Lists.{AreListsFound}
use Rattle.wc_why.specs.Private.Marks.{AreMarks, mark_of}
use Rattle.wc_why.specs.Private.Modules.{IsShown}
use Rattle.wc_why.specs.Private.Numbers.{AreNumbers}
use Rattle.wc_why.specs.Private.PathTree.{IsPathTree}
use Rattle.wc_why.specs.Private.Roots.{AreFirsts}
use Rattle.wc_why.specs.declared.component.ComponentTree.{ComponentTree}
use Rattle.wc_why.specs.declared.component.Target.{Target}
use Rattle.wc_why.specs.declared.links.Linked.{Linked}
use Rattle.wc_why.specs.declared.lists.Lists.{Lists}
use Rattle.wc_why.specs.declared.numbers.Numbers.{Numbers}
use Rattle.wc_why.specs.declared.part.Part.{Part}
use Rattle.wc_why.specs.declared.path_tree.PathTree.{PathTree}
use Rattle.wc_why.specs.declared.shown.Positions.{Positions}
use Rattle.wc_why.specs.declared.shown.Shown.{Shown}
use Rattle.wc_why.specs.Private.Ends.{end_by, end_of}
use Rattle.wc_why.specs.Private.Positions.{ArePositions, ArePositionsTo, IsTreeIn, groups_view}
use Rattle.wc_why.specs.declared.component.End.{End}
use Rattle.wc_why.proofs.GraphLemmas.{part_there, parts_below}
use Rattle.wc_why.proofs.MarkLemmas.{mark_is}

-- the tree is of the component
pub tree_in : (parts : List PartView) (lists : List (List (ℕ × ℕ))) (targets items : List (ℕ × ℕ)) (from ends : List (Option ℕ))
    → ArePaths (names_in parts) lists targets items from ends → All (λ y. has_item parts y ≡ true) items → IsTreeIn parts items from
tree_in parts lists targets items from ends p there = record {
  even = p.even;
  there = there;
  before_there = λ k j e. let lt = p.earlier k j e in let w = slice_get_within from k (Some j) e in let s = p.even in omega (arith, lt, w, s);
  named = p.named;
}

-- each item is of a part
pub parts_there : (parts : List PartView) (items : List (ℕ × ℕ)) → All (λ y. has_item parts y ≡ true) items → All (λ y. y.0 < length parts) items
parts_there parts items a = λ i d lt. part_there parts (get_or items i d) (a i d lt)

-- what the marks are is said of each item
module _ (parts : List PartView) (items : List (ℕ × ℕ)) (from : List (Option ℕ)) (M N : ℕ × ℕ → Option Bool → Type 0)
    (weaker : (y : ℕ × ℕ) (only : Option Bool) → Contains items y → M y only → N y only) where
  shown_weaker : (part : PartView) (k : ℕ) (s : ShownView) → IsShownAt parts part items from M k s → IsShownAt parts part items from N k s
  shown_weaker part k s a = record {
    y = a.y;
    before = a.before;
    is = a.is;
    is_before = a.is_before;
    item = a.item;
    only = weaker a.y s.only (k, slice_get_within items k a.y a.is, get_or_from_slice_get items k a.y a.y a.is) a.only;
    from_it = a.from_it;
  }

  pub modules_weaker : (ms : List TreeModuleView) → AreModules parts items from M ms → AreModules parts items from N ms
  modules_weaker ms a = record {
    each = a.each;
    at = λ p part m is here.
        let w = a.at p part m is here in
        record {
          shown = w.shown;
          are_shown = record { each = w.are_shown.each; at = λ i k s e f. shown_weaker part k s (w.are_shown.at i k s e f) };
          names = w.names;
          are_names = w.are_names;
          laid = w.laid;
        };
  }

-- where a path that is read back ends there is an item
read_there : {items : List (ℕ × ℕ)} {from : List (Option ℕ)} {k : ℕ} {path : List (ℕ × ℕ)} → IsReadBack items from k path → (y : ℕ × ℕ) × (slice_get items k ≡ Some y)
read_there (begins k x at none) = (x, at)
read_there (goes_on k j x path at by rest) = (x, at)

pub ends_are : (parts : List PartView) (lists : List (List (ℕ × ℕ))) (targets items : List (ℕ × ℕ)) (from ends : List (Option ℕ)) (modules : ℕ)
    (groups : List (List ℕ)) (own : List ℕ) (found : List (Option End)) → ArePaths (names_in parts) lists targets items from ends
    → ArePositionsTo items modules (length items) groups own → found ≡ map (end_of items own) ends → AreEnds items ends found
ends_are parts lists targets items from ends modules groups own found p a is = record {
  each = ap length is ∙ length-map ends (end_of items own);
  at = λ n end e at here.
      let made : e ≡ end_of items own end = same_Some e (end_of items own end) (sym here ∙ (ap (λ l. slice_get l n) is ∙ (slice_get-map (end_of items own) ends n ∙ ap (option_map (end_of items own)) at))) in
      subst (IsEndAt items end) (sym made) (by n end at);
}
  where
    there : (n k : ℕ) → slice_get ends n ≡ Some (Some k) → (y : ℕ × ℕ) × (slice_get items k ≡ Some y)
    there n k at =
        let lt : n < length targets = let w = slice_get_within ends n (Some k) at in let e = p.each in omega (arith, w, e) in
        let x = get_or targets n (0, 0) in
        let (end, here, ended) = p.paths n x (slice_get-get_or targets n (0, 0) lt) in
        let same : end ≡ Some k = same_Some end (Some k) (sym here ∙ at) in
        of_end n x end ended k same
      where
        of_end : (n : ℕ) (x : ℕ × ℕ) (end : Option ℕ) → IsEndOf (names_in parts) lists items from x end → (k : ℕ) → end ≡ Some k → (y : ℕ × ℕ) × (slice_get items k ≡ Some y)
        of_end n x None ended k e = absurd (let eq : None ≡ Some k = e in cc)
        of_end n x (Some m) (list, path, leads, read) k e =
            let same : m ≡ k = same_Some m k e in
            subst (λ v. (y : ℕ × ℕ) × (slice_get items v ≡ Some y)) same (read_there read)

    by : (n : ℕ) (end : Option ℕ) → slice_get ends n ≡ Some end → IsEndAt items end (end_of items own end)
    by n None at = refl
    by n (Some k) at =
        let (y, here) = there n k at in
        let lt = slice_get_within items k y here in
        let placed = a.own_at k y lt here in (
          end_by y (position_in items y k),
          y,
          ap (option_and_then (λ (z : ℕ × ℕ). option_map (end_by z) (slice_get own k))) here ∙ ap (option_map (end_by y)) placed,
          here,
          refl,
          refl,
        )

-- all of it
pub component_is : (parts : List Part) (n : Numbers) (links : List (Option Linked)) (targets : List Target) (marked : Bool) → AreNumbers (map part_view parts) n
    → AreLinked (map part_view parts) n links → (l : Lists) → AreListsFound (map part_view parts) n l → (marks : Option (Vec Bool Global))
    → AreMarks (names_by (map part_view parts) n links) n l.roots.items targets marked marks → (tree : PathTree) → IsPathTree (map part_view parts) n l.found targets tree
    → All (λ y. has_item (map part_view parts) y ≡ true) tree.items.items → (pos : Positions) → ArePositions tree.items.items (length parts) pos → (t : ComponentTree)
    → AreModules (map part_view parts) tree.items.items tree.from.items (λ y only. only ≡ mark_of n marks y) (map tree_module_view t.modules.items)
    → t.ends.items ≡ map (end_of tree.items.items pos.own.items) tree.ends.items → IsComponentTree (map part_view parts) targets marked t
component_is parts n links targets marked numbered linked l f marks are tree paths there pos placed t modules ends =
    let ps = map part_view parts in
    let p = paths f.lists f.found in
    record {
      lists = f.lists;
      are_lists = f.are;
      items = tree.items.items;
      from = tree.from.items;
      ends = tree.ends.items;
      paths = p;
      modules =
          modules_weaker ps tree.items.items tree.from.items (λ y only. only ≡ mark_of n marks y) (IsMark ps f.lists (asked_items targets) marked)
          (λ y only c e.
          subst (IsMark ps f.lists (asked_items targets) marked y) (sym e)
          (mark_is ps n links numbered (parts_below parts) linked l.roots.items f.roots.inside f.lists targets marked marks f.roots.are are y
          (All-contains (λ z. has_item ps z ≡ true) tree.items.items y there c)))
          (map tree_module_view t.modules.items) modules;
      are_ends =
          ends_are ps f.lists (map target_item targets) tree.items.items tree.from.items tree.ends.items (length parts) (groups_view pos.groups.items) pos.own.items
          t.ends.items p placed ends;
    }

pub is_shown : (s : Shown) → IsComponent s.graph → AreFirsts (map part_view s.graph.parts.now) s.graph.numbers.now s.firsts.now → (l : Lists)
    → AreListsFound (map part_view s.graph.parts.now) s.graph.numbers.now l → (targets : List Target) → IsPathTree (map part_view s.graph.parts.now) s.graph.numbers.now l.found targets s.tree.now
    → All (λ y. has_item (map part_view s.graph.parts.now) y ≡ true) s.tree.now.items.items → ArePositions s.tree.now.items.items (length s.graph.parts.now) s.positions.now → IsShown s
is_shown s component first l f targets paths there placed = record {
  component = component;
  first = first;
  tree_in = tree_in (map part_view s.graph.parts.now) f.lists (map target_item targets) s.tree.now.items.items s.tree.now.from.items s.tree.now.ends.items (paths f.lists f.found) there;
  placed = placed;
}
