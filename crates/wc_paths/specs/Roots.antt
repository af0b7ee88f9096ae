-- The two lists of roots of a module, and the items of imports.
use Rattle.std.specs.Prelude.{◌≡◌, ℕ, List, ◌++◌, map, length, take, count_by, Bool, true, false, filter, Option, Some}
use Rattle.std.specs.List.{range_with_len, slice_get}
use Rattle.std.specs.Option.{option_to_list, option_map, option_map_or}
use Rattle.wc_read.specs.Exports.{ExportValue}
use Rattle.wc_read.specs.Imports.{ImportValue}
use Rattle.wc_read.specs.Modules.{ModuleValue}
use Rattle.wc_read.specs.declared.operators.Space.{Space}
use Rattle.wc_read.specs.declared.operators.Space.TheVariants.{Funcs, Tables, Memories, Globals}
use Rattle.wc_read.specs.declared.types.ImportType.{ImportType}
use Rattle.wc_read.specs.declared.types.ImportType.TheVariants.{Func, Table, Memory, Global}
use Rattle.wc_read.specs.Decoded.{exported_item}
use Rattle.wc_read.specs.ImportItems.{is_in_space}
use Rattle.wc_segments.specs.Data.{DataValue}
use Rattle.wc_segments.specs.Elements.{ElementValue}
use Rattle.wc_segments.specs.Modes.{ModeValue, passive, active, declarative}
use Rattle.wc_segments.specs.Segments.{SegmentsValue}
use Rattle.wc_paths.specs.Items.{space_item}
use Rattle.wc_paths.specs.declared.items.PathItem.{PathItem}
use Rattle.wc_paths.specs.declared.items.PathItem.TheVariants.{Item, Elements, Data}

-- the item of an export
abbrev pub export_item : ExportValue → PathItem
export_item e = space_item (exported_item e)

-- the items of some exports, and then the start function
abbrev pub roots_of : List ExportValue → Option ℕ → List PathItem
roots_of exports start = map export_item exports ++ option_to_list (option_map (λ n. Item Funcs n) start)

-- the items of all exports, in the order of the file, and then the start function
abbrev pub first_roots : ModuleValue → List PathItem
first_roots m = roots_of m.exports m.start

-- whether a segment is active
abbrev pub is_active : ModeValue → Bool
is_active passive = false
is_active (active index offset) = true
is_active declarative = false

abbrev pub is_active_element : List ElementValue → ℕ → Bool
is_active_element es n = option_map_or (λ (e : ElementValue). is_active e.mode) (slice_get es n) false

abbrev pub is_active_data : List DataValue → ℕ → Bool
is_active_data ds n = option_map_or (λ (d : DataValue). is_active d.mode) (slice_get ds n) false

-- active element segments, and then active data segments
abbrev pub second_roots : SegmentsValue → List PathItem
second_roots s =
    map (λ n. Elements n) (filter (is_active_element s.elements) (range_with_len 0 (length s.elements)))
    ++ map (λ n. Data n) (filter (is_active_data s.data_segments) (range_with_len 0 (length s.data_segments)))

-- the space of an import's item
abbrev pub import_space : ImportType → Space
import_space (Func index) = Funcs
import_space (Table t) = Tables
import_space (Memory t) = Memories
import_space (Global t) = Globals

-- the item of the import at a position: its index is the number of imports before it whose items are in its space
abbrev pub import_item : List ImportValue → ℕ → ImportValue → PathItem
import_item imports k i = Item (import_space i.ty) (count_by (λ (j : ImportValue). is_in_space (import_space i.ty) j.ty) (take k imports))

-- for each import its item
pub record AreImportItems (imports : List ImportValue) (items : List PathItem) : Type 0 where
  pub each : length items ≡ length imports
  pub at : (k : ℕ) (i : ImportValue) → slice_get imports k ≡ Some i → slice_get items k ≡ Some (import_item imports k i)
