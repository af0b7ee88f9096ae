-- The items of a tree by modules: their positions.
use Rattle.std.specs.Prelude.{◌≡◌, ◌≢◌, ℕ, ◌<◌, ◌++◌, ◌∷◌, [], true, List, All, Contains, length, map, Option, Some}
use Rattle.std.specs.List.{slice_get}
use Rattle.std.specs.declared.alloc.Global.{Global}
use Rattle.std.specs.declared.vec.Vec.{Vec}
use Rattle.wc_why.specs.Component.{position_in, positions_in}
use Rattle.wc_why.specs.Graph.{has_item, names_in}
use Rattle.wc_why.specs.Part.{PartView}
use Rattle.wc_why.specs.declared.shown.Positions.{Positions}

abbrev pub items_of : Vec ℕ Global → List ℕ
items_of v = v.items

abbrev pub groups_view : List (Vec ℕ Global) → List (List ℕ)
groups_view groups = map items_of groups

-- the positions of the first so many items by modules, and of each of these its position there
pub record ArePositionsTo (items : List (ℕ × ℕ)) (modules count : ℕ) (groups : List (List ℕ)) (own : List ℕ) : Type 0 where
  pub modules_are : length groups ≡ modules
  pub grouped : (p : ℕ) (ks : List ℕ) → slice_get groups p ≡ Some ks → ks ≡ positions_in items p count
  pub each : length own ≡ count
  pub own_at : (k : ℕ) (y : ℕ × ℕ) → k < count → slice_get items k ≡ Some y → slice_get own k ≡ Some (position_in items y k)

abbrev pub ArePositions : List (ℕ × ℕ) → ℕ → Positions → Type 0
ArePositions items modules ps = ArePositionsTo items modules (length items) (groups_view ps.groups.items) ps.own.items

-- a position was appended to a module's
pub record IsPutUnder (p k : ℕ) (old new : List (List ℕ)) (place : ℕ) : Type 0 where
  pub sized : length new ≡ length old
  pub here : (ks : List ℕ) → slice_get old p ≡ Some ks → (place ≡ length ks) × (slice_get new p ≡ Some (ks ++ k ∷ []))
  pub others : (q : ℕ) → q ≢ p → slice_get new q ≡ slice_get old q

-- the tree is of this component: its items are there, and the one before an item is there and names it
pub record IsTreeIn (parts : List PartView) (items : List (ℕ × ℕ)) (from : List (Option ℕ)) : Type 0 where
  pub even : length from ≡ length items
  pub there : All (λ y. has_item parts y ≡ true) items
  pub before_there : (k j : ℕ) → slice_get from k ≡ Some (Some j) → j < length items
  pub named : (k j : ℕ) (x y : ℕ × ℕ) → slice_get from k ≡ Some (Some j) → slice_get items k ≡ Some x → slice_get items j ≡ Some y → Contains (names_in parts y) x
