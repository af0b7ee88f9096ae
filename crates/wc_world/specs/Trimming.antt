-- Which adapters a component has, and what each is trimmed by.
use Rattle.std.specs.Prelude.{◌≡◌, ◌≢◌, String, string_bytes, ℕ, ◌^◌, ◌-◌, List, [], ◌++◌, map, filter, min, Bool, true, false, ◌||◌, Option, None, is_some, cond, nat_lt, if◌then◌else◌}
use Rattle.std.specs.List.{list_any}
use Rattle.std.specs.Option.{option_and_then, option_map_or}
use Rattle.std.specs.Str.{bytes_eq}
use Rattle.std.specs.String.{string_eq}
use Rattle.std.specs.declared.alloc.Global.{Global}
use Rattle.wc_read.specs.declared.types.MemoryType.{MemoryType}
use Rattle.wc_read.specs.Limits.{page_size_log2_of}
use Rattle.wc_read.specs.Types.{FuncTypeValue}
use Rattle.wc_resolve.specs.Views.{ItemView, KeyView, function_item, interface_item, type_item}
use Rattle.wc_resolve.specs.Kinds.{ResolveView}
use Rattle.wc_adapters.specs.Adapters.{AdapterView}
use Rattle.wc_encoder.specs.EncoderParts.{EncoderView, world_exports}
use Rattle.wc_adapters.specs.Entries.{Entries}
use Rattle.wc_names.specs.ExportViews.{ExportView}
use Rattle.wc_names.specs.Keys.{item_under}
use Rattle.wc_texts.specs.Names.{first_occurrences}
use Rattle.wc_validate.specs.Exports.Map.{ExportRecord, first_name, first_that, is_adapter_realloc, is_memory, memory_of, own_or_general}
use Rattle.wc_validate.specs.Imports.Map.{required_in}
use Rattle.wc_validate.specs.Requirements.{functions_of}
use Rattle.wc_validate.specs.Validate.{ValidationInput, ModuleRecord, adapter_input}

-- an adapter or a library under its name
abbrev pub NamedAdapter : Type 0
NamedAdapter = List ℕ × AdapterView

abbrev pub HasOtherName : List ℕ → NamedAdapter → Type 0
HasOtherName name x = x.0 ≢ name

abbrev pub is_some_of : {X : Type 0} → List X → Bool
is_some_of [] = false
is_some_of xs = true

-- what a world exports under a key is a function, or an interface that has one
abbrev pub has_function : ResolveView → ItemView → Bool
has_function r (interface_item i external) = is_some_of (functions_of r i)
has_function r (function_item f) = true
has_function r (type_item t) = false

abbrev pub exports_function : ResolveView → Entries → KeyView → Bool
exports_function r exports key = option_map_or (has_function r) (item_under exports key) false

-- an adapter is needed: it is a library, or functions are imported from it, or it has to export one
abbrev pub is_needed : ResolveView → Entries → AdapterView → List (List ℕ × FuncTypeValue) → Bool
is_needed r exports a required = is_some a.library_info || (is_some_of required || list_any (exports_function r exports) a.required_exports)

-- the adapters and libraries that a component has, by what its main module imports
abbrev pub is_adapter_needed : EncoderView → ModuleRecord → NamedAdapter → Bool
is_adapter_needed e main x = is_needed e.resolve (world_exports e) x.1 (required_in main.imports x.0)

abbrev pub needed_adapters : EncoderView → ModuleRecord → List NamedAdapter
needed_adapters e main = filter (is_adapter_needed e main) e.adapters

-- what an adapter is validated for, before it is trimmed and after
abbrev pub validation_input_of : EncoderView → ModuleRecord → NamedAdapter → ValidationInput
validation_input_of e main x = adapter_input e x.1.library_info x.1.required_exports (required_in main.imports x.0)

-- the exports that are required of an adapter: what the main module imports, and what the first validation records
abbrev pub required_names : List (List ℕ × FuncTypeValue) → ExportRecord → List (List ℕ)
required_names required exports = first_occurrences (map (λ (f : List ℕ × FuncTypeValue). f.0) required ++ map (λ (x : List ℕ × ExportView). x.0) exports)

-- the main module's realloc that adapters import, unless they grow memory for themselves
abbrev pub main_realloc : Bool → ExportRecord → Option (List ℕ)
main_realloc grows exports = cond grows None (own_or_general (first_name is_adapter_realloc exports) exports)

-- the exponent of the pages of the memory that an adapter imports; no module spells more than 16
abbrev pub trim_page_size_log2 : Option MemoryType → ℕ
trim_page_size_log2 memory = min (option_map_or (λ (t : MemoryType). page_size_log2_of t.page_size_log2) memory 16) 16

-- the bytes in a page of a memory, in 64 bits
abbrev pub page_size : MemoryType → ℕ
page_size t = if nat_lt (page_size_log2_of t.page_size_log2) 64 then 2 ^ page_size_log2_of t.page_size_log2 else 2 ^ 64 - 1

-- the bytes in a page of the main module's memory; 65536, where it exports none
abbrev pub exported_memory : ExportRecord → Option (List ℕ × MemoryType)
exported_memory exports = option_and_then memory_of (first_that is_memory exports)

abbrev pub main_page_size : ExportRecord → ℕ
main_page_size exports = option_map_or (λ (m : List ℕ × MemoryType). page_size m.1) (exported_memory exports) 65536

-- names in the order of their first occurrences, and whether a name is among them
pub record HasNames (keys : List (String Global)) (passed : List (List ℕ)) : Type 0 where
  pub names : map string_bytes keys ≡ first_occurrences passed
  pub has : (q : String Global) → list_any (string_eq q) keys ≡ list_any (bytes_eq (string_bytes q)) passed
