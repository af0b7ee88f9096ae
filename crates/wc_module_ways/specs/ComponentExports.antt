-- The exports of an adapter that a component may need, by their names, kinds and types.
use Rattle.std.specs.Prelude.{ℕ, List, Bool, false, ◌&&◌, ◌||◌, map, filter, codes, Option, is_some}
use Rattle.std.specs.List.{slice_get}
use Rattle.std.specs.Option.{option_and_then, option_map_or}
use Rattle.std.specs.Str.{bytes_eq}
use Rattle.wc_texts.specs.Prefixes.{rest_after}
use Rattle.wc_texts.specs.Splits.{split_once}
use Rattle.wc_read.specs.Exports.{ExportValue}
use Rattle.wc_read.specs.Items.{FuncValue}
use Rattle.wc_read.specs.Modules.{ModuleValue}
use Rattle.wc_read.specs.Types.{FuncTypeValue}
use Rattle.wc_read.specs.declared.exports.ExportKind.{ExportKind}
use Rattle.wc_read.specs.declared.exports.ExportKind.TheVariants.{Func, Table, Memory, Global}
use Rattle.wc_gc.specs.Found.{is_empty_type, is_realloc_type}

-- the name of a function of an interface, as `wasi:cli/run@0.2.6#run`; 35 is `#`
abbrev pub has_hash : List ℕ → Bool
has_hash name = is_some (split_once 35 name)

-- a name of the standard scheme (component model, pull request 378)
abbrev pub is_standard : List ℕ → Bool
is_standard name = is_some (rest_after (codes "cm32p2") name)

-- the names of four reallocs, whatever is exported by them
abbrev pub is_realloc_name : List ℕ → Bool
is_realloc_name name =
    bytes_eq name (codes "canonical_abi_realloc") || (bytes_eq name (codes "cabi_import_realloc")
    || (bytes_eq name (codes "cabi_export_realloc") || bytes_eq name (codes "cabi_realloc_adapter")))

abbrev pub is_component_name : List ℕ → Bool
is_component_name name = has_hash name || (is_standard name || is_realloc_name name)

-- the type of the function of an index
abbrev pub type_of : ModuleValue → ℕ → Option FuncTypeValue
type_of m index = option_and_then (λ (f : FuncValue). slice_get m.types f.ty) (slice_get m.funcs index)

-- the general realloc, and the function that is called before all others
abbrev pub is_realloc : List ℕ → FuncTypeValue → Bool
is_realloc name t = bytes_eq name (codes "cabi_realloc") && is_realloc_type t

abbrev pub is_initializer : List ℕ → FuncTypeValue → Bool
is_initializer name t = bytes_eq name (codes "_initialize") && is_empty_type t

abbrev pub is_component_function : ModuleValue → List ℕ → ℕ → Bool
is_component_function m name index = option_map_or (λ t. is_realloc name t || is_initializer name t) (type_of m index) false

-- what is exported by one of five names and is of its kind, a function of its type
abbrev pub is_item_of_kind : ModuleValue → ExportKind → List ℕ → ℕ → Bool
is_item_of_kind m Func name index = is_component_function m name index
is_item_of_kind m Table name index = bytes_eq name (codes "__indirect_function_table")
is_item_of_kind m Memory name index = bytes_eq name (codes "memory")
is_item_of_kind m Global name index = false

abbrev pub is_component_item : ModuleValue → ExportValue → Bool
is_component_item m e = is_item_of_kind m e.kind e.name e.index

-- a component may need an export
abbrev pub is_component_export : ModuleValue → ExportValue → Bool
is_component_export m e = is_component_name e.name || is_component_item m e

-- the names of those of some exports; and of all in a module
abbrev pub needed_names : ModuleValue → List ExportValue → List (List ℕ)
needed_names m exports = map (λ (e : ExportValue). e.name) (filter (is_component_export m) exports)

abbrev pub component_exports : ModuleValue → List (List ℕ)
component_exports m = needed_names m m.exports
