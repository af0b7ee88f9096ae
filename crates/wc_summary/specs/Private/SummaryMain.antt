-- Which functions of the main module name imports, and how many imports are of an interface, as the code notes it.
use Rattle.std.specs.Prelude.{◌≡◌, ◌↔◌, ◌==◌, ℕ, ◌<◌, ◌%◌, Bool, ◌&&◌, List, [], Contains, cond, filter, count_by, length, slice_index, slice_index_or, slice_get, Option, Some, None}
use Rattle.std.specs.List.{list_any, range_with_len}
use Rattle.wc_read.specs.Imports.{ImportValue}
use Rattle.wc_read.specs.Modules.{ModuleValue}
use Rattle.wc_segments.specs.Segments.{SegmentsValue}
use Rattle.wc_paths.specs.Items.{CountsValue, GraphValue, counts_of, graph_of, names_in}
use Rattle.wc_paths.specs.Paths.{IsReachedInAny}
use Rattle.wc_paths.specs.Roots.{first_roots, import_item, second_roots}
use Rattle.wc_paths.specs.Numbers.{item_count, number_of, numbers_in}
use Rattle.wc_paths.specs.declared.items.PathItem.{PathItem}
use Rattle.wc_paths.specs.declared.items.PathItem.TheVariants.{Item}
use Rattle.wc_read.specs.declared.operators.Space.TheVariants.{Funcs}
use Rattle.wc_graph.specs.Positions.{AreAscending, IsAt}
use Rattle.wc_summary.specs.Leads.{as_number, is_root, is_tag}
use Rattle.wc_summary.specs.Summary.{PartsView}
use Rattle.wc_summary.specs.Entries.{EntriesView, interfaces_of, parts_of}
use Rattle.wc_summary.specs.Private.Entries.{named_by}
use Rattle.wc_summary.specs.Private.Tags.{tag_at}

-- how many of some places are those of an interface
abbrev pub count_at : List (List ℕ) → List (Option ℕ) → List ℕ → ℕ
count_at interfaces places interface = count_by (λ (p : Option ℕ). is_tag interface (tag_at interfaces p)) places

abbrev pub with_count : ℕ → PartsView → PartsView
with_count n p = record { main = record { imports = n; by = p.main.by }; adapters = p.adapters; types = p.types }

-- the imports of the main module at these places are counted, of interfaces of which none was
pub record CountsEach (places : List (Option ℕ)) (old new : EntriesView) : Type 0 where
  pub listed : interfaces_of new ≡ interfaces_of old
  pub each : (interface : List ℕ) → (parts_of old interface).main.imports ≡ 0 → parts_of new interface ≡ with_count (count_at (interfaces_of old) places interface) (parts_of old interface)

-- one of these items is an import of the interface, by the places of items
abbrev pub is_named : List (List ℕ) → List (Option ℕ) → List ℕ → List ℕ → Bool
is_named interfaces owners named interface = list_any (λ (n : ℕ). is_tag interface (tag_at interfaces (slice_index_or owners n None))) named

-- a function that names these items is noted
pub record NotesNamed (owners : List (Option ℕ)) (function : ℕ) (named : List ℕ) (old new : EntriesView) : Type 0 where
  pub listed : interfaces_of new ≡ interfaces_of old
  pub each : (interface : List ℕ) → parts_of new interface ≡ cond (is_named (interfaces_of old) owners named interface) (named_by function (parts_of old interface)) (parts_of old interface)

-- the words of roots are 1, and all others as they were
pub record AreMarked (c : CountsValue) (roots : List PathItem) (old new : List ℕ) : Type 0 where
  pub sized : length new ≡ length old
  pub at : (n : ℕ) → n < length old → slice_index new n ≡ cond (is_root c roots n) 1 (slice_index old n)

-- a root leads to a function; and what it names, by their numbers
abbrev pub function_number : GraphValue → ℕ → ℕ
function_number g f = number_of (counts_of g) (Item Funcs f)

abbrev pub is_reached_at : GraphValue → List ℕ → ℕ → Bool
is_reached_at g words f = slice_index words (function_number g f) % 2 == 1

abbrev pub named_at : GraphValue → ℕ → List ℕ
named_at g f = numbers_in g (function_number g f)

-- a function is reached, and names an import of the interface
abbrev pub is_namer : GraphValue → List (List ℕ) → List (Option ℕ) → List ℕ → List ℕ → ℕ → Bool
is_namer g interfaces owners words interface f = is_reached_at g words f && is_named interfaces owners (named_at g f) interface

abbrev pub with_by : List ℕ → PartsView → PartsView
with_by by p = record { main = record { imports = p.main.imports; by = by }; adapters = p.adapters; types = p.types }

-- such functions are noted, of so many, for interfaces for which none was
pub record NotesUpTo (g : GraphValue) (owners : List (Option ℕ)) (words : List ℕ) (count : ℕ) (old new : EntriesView) : Type 0 where
  pub listed : interfaces_of new ≡ interfaces_of old
  pub each : (interface : List ℕ) → (parts_of old interface).main.by ≡ []
      → parts_of new interface ≡ with_by (filter (is_namer g (interfaces_of old) owners words interface) (range_with_len 0 count)) (parts_of old interface)

abbrev pub NotesNamers : GraphValue → List (Option ℕ) → List ℕ → EntriesView → EntriesView → Type 0
NotesNamers g owners words old new = NotesUpTo g owners words (counts_of g).funcs old new

-- a function names an import whose place is that of the interface, and is reached
abbrev pub NamesBy : GraphValue → List (List ℕ) → List ImportValue → List (Option ℕ) → List ℕ → ℕ → Type 0
NamesBy g interfaces imports places interface f =
    (k : ℕ) × (i : ImportValue) × (u : ℕ) × (slice_get imports k ≡ Some i) × IsAt places k u × (slice_get interfaces u ≡ Some interface)
    × Contains (names_in g (Item Funcs f)) (import_item imports k i)

abbrev pub IsNamerBy : GraphValue → List PathItem → List PathItem → List (List ℕ) → List ImportValue → List (Option ℕ) → List ℕ → ℕ → Type 0
IsNamerBy g first second interfaces imports places interface f =
    IsReachedInAny g first second (Item Funcs f) × NamesBy g interfaces imports places interface f

-- these are noted, for interfaces for which none was
pub record NotesOf (m : ModuleValue) (s : SegmentsValue) (places : List (Option ℕ)) (old new : EntriesView) : Type 0 where
  pub listed : interfaces_of new ≡ interfaces_of old
  pub each : (interface : List ℕ) → (by : List ℕ)
      × AreAscending (IsNamerBy (graph_of m s) (first_roots m) (second_roots s) (interfaces_of old) m.imports places interface) by
      × ((parts_of old interface).main.by ≡ [] → parts_of new interface ≡ with_by by (parts_of old interface))

-- items are owned by the places of their imports
pub record AreOwnersOf (c : CountsValue) (imports : List ImportValue) (places owners : List (Option ℕ)) : Type 0 where
  pub sized : length owners ≡ item_count c
  pub at : (n u : ℕ) → IsAt owners n u ↔ ((k : ℕ) × (i : ImportValue) × (slice_get imports k ≡ Some i) × IsAt places k u × (as_number c (import_item imports k i) ≡ Some n))
