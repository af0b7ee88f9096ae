-- What a core module imports and exports, with types, and the names of its functions, as JSON.
use Rattle.std.specs.Prelude.{ℕ, List, [], ◌∷◌, map, Option, Some, codes}
use Rattle.std.specs.List.{slice_get}
use Rattle.std.specs.Option.{option_and_then, option_map}
use Rattle.json.specs.Json.{Json, string}
use Rattle.wc_texts.specs.Shapes.{array_of, nullable_json, number_json, object_of}
use Rattle.wc_read.specs.Exports.{ExportValue}
use Rattle.wc_read.specs.Imports.{ImportValue}
use Rattle.wc_read.specs.Modules.{ModuleValue}
use Rattle.wc_read.specs.Names.{GlobalNameValue}
use Rattle.wc_read.specs.Types.{FuncTypeValue}
use Rattle.wc_read.specs.declared.exports.ExportKind.{ExportKind}
use Rattle.wc_read.specs.declared.exports.ExportKind.TheVariants.{Func, Table, Memory, Global}
use Rattle.wc_read.specs.declared.types.GlobalType.{GlobalType}
use Rattle.wc_read.specs.declared.types.ImportType.{ImportType}
use Rattle.wc_read.specs.declared.types.ImportType.TheVariants.{Func as func_import, Table as table_import, Memory as memory_import, Global as global_import}
use Rattle.wc_read.specs.declared.types.MemoryType.{MemoryType}
use Rattle.wc_read.specs.declared.types.TableType.{TableType}
use Rattle.wc_record.specs.CoreTypes.{export_kind_json, func_type_json, global_type_json, memory_type_json, table_type_json}

-- the type of an item of an index space
pub data ItemTypeValue : Type 0 where
  of_func : FuncTypeValue → ItemTypeValue
  of_table : TableType → ItemTypeValue
  of_memory : MemoryType → ItemTypeValue
  of_global : GlobalType → ItemTypeValue

abbrev pub item_type_json : ItemTypeValue → Json
item_type_json (of_func f) = func_type_json f
item_type_json (of_table t) = table_type_json t
item_type_json (of_memory m) = memory_type_json m
item_type_json (of_global g) = global_type_json g

-- the type of functions of an index among a module's types
abbrev pub func_type_at : List FuncTypeValue → ℕ → Option ItemTypeValue
func_type_at types index = option_map of_func (slice_get types index)

-- the kind of an import, and its type
abbrev pub import_kind : ImportType → ExportKind
import_kind (func_import index) = Func
import_kind (table_import t) = Table
import_kind (memory_import m) = Memory
import_kind (global_import g) = Global

abbrev pub import_type_in : List FuncTypeValue → ImportType → Option ItemTypeValue
import_type_in types (func_import index) = func_type_at types index
import_type_in types (table_import t) = Some (of_table t)
import_type_in types (memory_import m) = Some (of_memory m)
import_type_in types (global_import g) = Some (of_global g)

-- the type of an item of a module, by its kind and its index
abbrev pub item_type_in : ModuleValue → ExportKind → ℕ → Option ItemTypeValue
item_type_in m Func index = option_and_then (λ ty. func_type_at m.types ty) (option_map (λ f. f.ty) (slice_get m.funcs index))
item_type_in m Table index = option_map (λ t. of_table t.ty) (slice_get m.tables index)
item_type_in m Memory index = option_map (λ x. of_memory x.ty) (slice_get m.memories index)
item_type_in m Global index = option_map (λ g. of_global g.ty) (slice_get m.globals index)

-- an import and an export; in a module that was read each has a type
abbrev pub import_scan_json : List FuncTypeValue → ImportValue → Json
import_scan_json types i =
    object_of (
    (codes "module", string i.module_name) ∷ (codes "name", string i.name) ∷ (codes "kind", export_kind_json (import_kind i.ty))
    ∷ (codes "type", nullable_json item_type_json (import_type_in types i.ty)) ∷ []
    )

abbrev pub export_scan_json : ModuleValue → ExportValue → Json
export_scan_json m e =
    object_of (
    (codes "name", string e.name) ∷ (codes "kind", export_kind_json e.kind) ∷ (codes "index", number_json e.index)
    ∷ (codes "type", nullable_json item_type_json (item_type_in m e.kind e.index)) ∷ []
    )

-- the name of a function
abbrev pub function_name_json : GlobalNameValue → Json
function_name_json n = object_of ((codes "index", number_json n.0) ∷ (codes "name", string n.1) ∷ [])

-- all imports and exports in the order of the file, and all names that name sections give functions
abbrev pub scan_json : ModuleValue → List GlobalNameValue → Json
scan_json m names =
    object_of (
    (codes "imports", array_of (map (import_scan_json m.types) m.imports))
    ∷ (codes "exports", array_of (map (export_scan_json m) m.exports))
    ∷ (codes "function_names", array_of (map function_name_json names)) ∷ []
    )
