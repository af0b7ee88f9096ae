-- Which sections make a module invalid in which each item is right by itself (WebAssembly core specification, 3.4).
use Rattle.std.specs.Prelude.{ℕ, ◌+◌, List, length, Bool, true, false, not, ◌&&◌, ◌==◌, nat_lt, if◌then◌else◌, Option, Some, None, is_some}
use Rattle.std.specs.List.{filter, list_all}
use Rattle.std.specs.Option.{option_map_or}
use Rattle.wc_read.specs.Types.{has_type_index}
use Rattle.wc_read.specs.Imports.{ImportValue}
use Rattle.wc_read.specs.Globals.{LocalGlobalValue}
use Rattle.wc_read.specs.Operators.{ImmediatesValue, WithRefType}
use Rattle.wc_read.specs.BodyOperators.{init_in}
use Rattle.wc_read.specs.Reading.Types.{have_type_indices}
use Rattle.wc_read.specs.Sections.{type_id, import_id, function_id, table_id, global_id, export_id, start_id, code_id}
use Rattle.wc_read.specs.SectionContents.{SectionContentsValue}
use Rattle.wc_read.specs.Spaces.{func_of, table_of, memory_of, global_of}
use Rattle.wc_read.specs.declared.types.ImportType.{ImportType}
use Rattle.wc_read.specs.declared.types.ImportType.TheVariants.{Func, Table, Memory, Global}
use Rattle.wc_read.specs.declared.exports.ExportKind.{ExportKind}
use Rattle.wc_read.specs.declared.exports.ExportKind.TheVariants.{Func as FuncKind, Table as TableKind, Memory as MemoryKind, Global as GlobalKind}
use Rattle.wc_read.specs.declared.causes.ItemCounts.{ItemCounts}
use Rattle.wc_read.specs.declared.fault.ReadFault.{ReadFault}
use Rattle.wc_read.specs.declared.fault.ReadFault.TheVariants.{BadIndex, DuplicateExport, BadInitialiser, CountMismatch, BadStart, TooLarge}

-- whether the types that are named are below a number

abbrev pub import_has_types : ℕ → ImportType → Bool
import_has_types n (Func index) = nat_lt index n
import_has_types n (Table t) = has_type_index n t.element_type
import_has_types n (Memory m) = true
import_has_types n (Global g) = has_type_index n g.content_type

-- a null names the type that it is of
abbrev pub null_has_type : ℕ → ImmediatesValue → Bool
null_has_type n (WithRefType t) = has_type_index n t
null_has_type n _ = true

abbrev pub init_has_types : ℕ → List ℕ → Bool
init_has_types n bytes = option_map_or (list_all (λ i. null_has_type n i.immediates)) (init_in bytes) true

abbrev pub global_has_types : ℕ → LocalGlobalValue → Bool
global_has_types n g = has_type_index n g.ty.content_type && init_has_types n g.init

-- how many items the spaces have, of imported and of defined ones

abbrev pub is_of_kind : ExportKind → ImportType → Bool
is_of_kind FuncKind t = is_some (func_of t)
is_of_kind TableKind t = is_some (table_of t)
is_of_kind MemoryKind t = is_some (memory_of t)
is_of_kind GlobalKind t = is_some (global_of t)

abbrev pub imported_count : ExportKind → List ImportValue → ℕ
imported_count kind imports = length (filter (λ i. is_of_kind kind i.ty) imports)

abbrev pub counts_of : SectionContentsValue → ItemCounts
counts_of p = record {
  funcs = imported_count FuncKind p.imports + length p.func_types;
  tables = imported_count TableKind p.imports + length p.tables;
  memories = imported_count MemoryKind p.imports + length p.memories;
  globals = imported_count GlobalKind p.imports + length p.globals;
}

abbrev pub count_of_kind : ItemCounts → ExportKind → ℕ
count_of_kind c FuncKind = c.funcs
count_of_kind c TableKind = c.tables
count_of_kind c MemoryKind = c.memories
count_of_kind c GlobalKind = c.globals

-- whether each index that the section with an id names is that of a type or of an item
unfoldable pub is_in_range : SectionContentsValue → ℕ → Bool
is_in_range p id =
    if id == type_id then list_all (have_type_indices (length p.types)) p.types
    else if id == import_id then list_all (λ i. import_has_types (length p.types) i.ty) p.imports
    else if id == function_id then list_all (λ t. nat_lt t (length p.types)) p.func_types
    else if id == table_id then list_all (λ t. has_type_index (length p.types) t.element_type) p.tables
    else if id == global_id then list_all (global_has_types (length p.types)) p.globals
    else if id == export_id then list_all (λ e. nat_lt e.index (count_of_kind (counts_of p) e.kind)) p.exports
    else if id == start_id then option_map_or (λ index. nat_lt index (counts_of p).funcs) p.start true
    else true

-- whether the section with an id is what a fault is about, where each item is right by itself: it names an index out of
-- range, or its items do not fit the others
abbrev pub is_cause : SectionContentsValue → ReadFault → ℕ → Bool
is_cause p BadIndex id = not (is_in_range p id)
is_cause p DuplicateExport id = id == export_id
is_cause p BadInitialiser id = id == global_id
is_cause p BadStart id = id == start_id
is_cause p CountMismatch id = id == code_id
-- the items of a space pass 2 ^ 32 by those that are imported
is_cause p TooLarge id = id == import_id
is_cause p _ id = false
