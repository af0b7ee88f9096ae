-- The graph of a component by numbers.
use Rattle.std.specs.Prelude.{◌≡◌, ℕ, ◌+◌, ◌-◌, ◌<◌, List, [], ◌∷◌, ◌++◌, filter, length, map, set, Option, Some, None, slice_index_or}
use Rattle.std.specs.List.{slice_get}
use Rattle.std.specs.Option.{option_map, option_to_list}
use Rattle.wc_why.specs.Graph.{is_link_of, link_at, linked_item, part_names}
use Rattle.wc_why.specs.Part.{LinkView, PartView}
use Rattle.wc_why.specs.Private.Numbers.{AreNumbers, place_of}
use Rattle.wc_why.specs.declared.links.Linked.{Linked}
use Rattle.wc_why.specs.declared.numbers.Numbers.{Numbers}

-- what an item is linked to, by its number
abbrev pub IsLinkedTo : Numbers → Option LinkView → Option Linked → Type 0
IsLinkedTo n link None = link ≡ None
IsLinkedTo n link (Some l) = (k : LinkView) × (link ≡ Some k) × (l.export.now ≡ k.export) × (l.number < length n.owners.items) × (place_of n l.number ≡ linked_item k)

-- for each number, by these links
pub record AreLinkedBy (parts : List PartView) (links : List LinkView) (n : Numbers) (linked : List (Option Linked)) : Type 0 where
  pub each : length linked ≡ length n.owners.items
  pub at : (x : ℕ) (l : Option Linked) → slice_get linked x ≡ Some l → IsLinkedTo n (slice_get (filter (is_link_of parts (place_of n x)) links) 0) l

-- by the links of the first part; past the end of the list nothing is linked
abbrev pub AreLinked : List PartView → Numbers → List (Option Linked) → Type 0
AreLinked parts n linked = (x : ℕ) → x < length n.owners.items → IsLinkedTo n (link_at parts (place_of n x)) (slice_index_or linked x None)

-- what an item is linked to was noted, unless it had a link
pub record IsLinkNoted (item : ℕ) (to : Linked) (old new : List (Option Linked)) : Type 0 where
  pub kept : (l : Linked) → slice_index_or old item None ≡ Some l → new ≡ old
  pub noted : slice_index_or old item None ≡ None → new ≡ set old item (Some to)

-- a link was noted after others
abbrev pub AddsLink : Numbers → LinkView → List (Option Linked) → List (Option Linked) → Type 0
AddsLink n l old new =
    (parts : List PartView) (ls : List LinkView) → AreNumbers parts n → AreLinkedBy parts ls n old → AreLinkedBy parts (ls ++ l ∷ []) n new

abbrev pub linked_number : Linked → ℕ
linked_number l = l.number

-- what the item of a number names, by numbers
abbrev pub names_by : List PartView → Numbers → List (Option Linked) → ℕ → List ℕ
names_by parts n linked x =
    map (λ m. (x - (place_of n x).1) + m) (part_names parts (place_of n x)) ++ option_to_list (option_map linked_number (slice_index_or linked x None))
