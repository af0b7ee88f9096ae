-- The items of a tree by modules, as the code has them.
use Rattle.std.specs.Prelude.{◌≡◌, ℕ, Bool, List, Contains, length, map, Option, Some}
use Rattle.std.specs.List.{slice_get}
use Rattle.std.specs.Option.{option_and_then, option_map}
use Rattle.wc_paths.specs.Numbers.{item_at}
use Rattle.wc_paths.specs.declared.items.PathItem.{PathItem}
use Rattle.wc_why.specs.Component.{AreModules, IsAfter, IsShownAt, ShownView}
use Rattle.wc_why.specs.Graph.{names_in}
use Rattle.wc_why.specs.Part.{BeginView, LinkView, PartView, part_view}
use Rattle.wc_why.specs.Private.Components.{IsComponent}
use Rattle.wc_why.specs.Private.Marks.{mark_of}
use Rattle.wc_why.specs.Private.Positions.{ArePositions, IsTreeIn}
use Rattle.wc_why.specs.Private.Roots.{AreFirsts}
use Rattle.wc_why.specs.Tree.{TreeModuleView, TreeRootView, exported, tree_root_view}
use Rattle.wc_why.specs.declared.layout.ShownItem.{ShownItem}
use Rattle.wc_why.specs.declared.links.Linked.{Linked}
use Rattle.wc_why.specs.declared.shown.Shown.{Shown}

abbrev pub shown_view : ShownItem → ShownView
shown_view s = record { item = s.item; root = option_map tree_root_view s.root; from = s.from; called = s.called.now; only = s.only }

-- a tree of a component, and where its items are
pub record IsShown (s : Shown) : Type 0 where
  pub component : IsComponent s.graph
  pub first : AreFirsts (map part_view s.graph.parts.now) s.graph.numbers.now s.firsts.now
  pub tree_in : IsTreeIn (map part_view s.graph.parts.now) s.tree.now.items.items s.tree.now.from.items
  pub placed : ArePositions s.tree.now.items.items (length s.graph.parts.now) s.positions.now

-- what is said of an item after another one, which names it
abbrev pub IsAfterBy : List PartView → List (ℕ × ℕ) → ℕ → ℕ → PathItem → Option Bool → ShownView → Type 0
IsAfterBy parts items j p item only s =
    (z y : ℕ × ℕ) (part : PartView) → slice_get items j ≡ Some z → y.0 ≡ p → slice_get parts p ≡ Some part → item ≡ item_at part.counts y.1 → Contains (names_in parts z) y
    → (s.item ≡ item) × (s.only ≡ only) × IsAfter parts part items j z y s

-- where a path goes on by a link
abbrev pub linked_root : ℕ → LinkView → TreeRootView
linked_root k l = exported l.export (Some k)

-- the root at a position
abbrev pub root_in : List BeginView → ℕ → Option TreeRootView
root_in begins k = option_and_then (λ (b : BeginView). b.root) (slice_get begins k)

abbrev pub root_by : ℕ → Linked → TreeRootView
root_by k l = exported l.export.now (Some k)

-- the item at a position, as the code finds it
abbrev pub IsShownBy : Shown → ℕ → ShownView → Type 0
IsShownBy s k view =
    (p : ℕ) (part : PartView) (n : ℕ) → slice_get s.tree.now.items.items k ≡ Some (p, n) → slice_get (map part_view s.graph.parts.now) p ≡ Some part
    → IsShownAt (map part_view s.graph.parts.now) part s.tree.now.items.items s.tree.now.from.items
    (λ y only. only ≡ mark_of s.graph.numbers.now s.marks.now y) k view

pub record AreShownBy (s : Shown) (ks : List ℕ) (views : List ShownView) : Type 0 where
  pub each : length views ≡ length ks
  pub at : (i k : ℕ) (view : ShownView) → slice_get ks i ≡ Some k → slice_get views i ≡ Some view → IsShownBy s k view

-- all modules of the tree
abbrev pub AreModulesBy : Shown → List TreeModuleView → Type 0
AreModulesBy s ms =
    AreModules (map part_view s.graph.parts.now) s.tree.now.items.items s.tree.now.from.items (λ y only. only ≡ mark_of s.graph.numbers.now s.marks.now y) ms
