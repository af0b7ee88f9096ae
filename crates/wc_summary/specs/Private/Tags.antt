-- Interfaces of imports, and their places, as the code has them.
use Rattle.std.specs.Prelude.{◌≡◌, ℕ, ◌+◌, ◌<◌, cond, List, [], ◌∷◌, count_by, length, map, nat_eq, slice_index, Option, Some}
use Rattle.std.specs.List.{slice_get}
use Rattle.std.specs.Option.{option_and_then, option_eq}
use Rattle.wc_graph.specs.Positions.{AreBelow}
use Rattle.wc_summary.specs.Leads.{Tags, named_in}
use Rattle.wc_summary.specs.Entries.{EntriesView, Lists, interfaces_of, parts_of}

-- the interface at a place
abbrev pub tag_at : List (List ℕ) → Option ℕ → Option (List ℕ)
tag_at interfaces place = option_and_then (slice_get interfaces) place

-- interfaces were listed, and nothing else changed
pub record AreListed (names : List (List ℕ)) (old new : EntriesView) : Type 0 where
  pub listed : Lists old new names
  pub grown : (k : ℕ) (name : List ℕ) → slice_get (interfaces_of old) k ≡ Some name → slice_get (interfaces_of new) k ≡ Some name
  pub same : (name : List ℕ) → parts_of new name ≡ parts_of old name

pub record IsTagPlaced (tag : Option (List ℕ)) (place : Option ℕ) (old new : EntriesView) : Type 0 where
  pub listed : AreListed (named_in (tag ∷ [])) old new
  pub below : (u : ℕ) → place ≡ Some u → u < length (interfaces_of new)
  pub at : tag_at (interfaces_of new) place ≡ tag

-- of each import its interface is at its place
pub record AreTagsAt (interfaces : List (List ℕ)) (tags : Tags) (places : List (Option ℕ)) : Type 0 where
  pub below : AreBelow (length interfaces) places
  pub are : map (tag_at interfaces) places ≡ tags

pub record AreTagsPlaced (tags : Tags) (places : List (Option ℕ)) (old new : EntriesView) : Type 0 where
  pub listed : AreListed (named_in tags) old new
  pub at : AreTagsAt (interfaces_of new) tags places

-- how often a place is there
abbrev pub count_place : List (Option ℕ) → ℕ → ℕ
count_place places u = count_by (option_eq nat_eq (Some u)) places

pub record ArePlacesCounted (places : List (Option ℕ)) (count : ℕ) (counts : List ℕ) : Type 0 where
  pub each : length counts ≡ count
  pub at : (u : ℕ) → u < count → slice_index counts u ≡ count_place places u

pub record IsCounted (place : Option ℕ) (old new : List ℕ) : Type 0 where
  pub sized : length new ≡ length old
  pub at : (u : ℕ) → u < length old → slice_index new u ≡ slice_index old u + cond (option_eq nat_eq (Some u) place) 1 0
