-- Recorded imports, as they are looked up.
use Rattle.std.specs.Prelude.{ℕ, List, [], ◌∷◌, map, not, filter, Option, None, String, string_bytes}
use Rattle.std.specs.List.{filter_map, flat_map}
use Rattle.std.specs.Map.{lookup}
use Rattle.std.specs.Option.{option_map, option_map_or}
use Rattle.std.specs.Str.{bytes_eq}
use Rattle.std.specs.declared.alloc.Global.{Global}
use Rattle.wc_read.specs.declared.types.FuncType.{FuncType}
use Rattle.wc_read.specs.declared.types.MemoryType.{MemoryType}
use Rattle.wc_read.specs.Types.{FuncTypeValue, func_type_value}
use Rattle.wc_names.specs.Views.{ImportView}
use Rattle.wc_validate.specs.Imports.Entries.{InstanceRecord, all_of, names_of, Records, adapter_function_of, memory_type_of, first_by}

-- a list by names, cut to the first entry of each name
abbrev pub first_of_names : {X : Type 0} → List (List ℕ × X) → List (List ℕ × X)
first_of_names [] = []
first_of_names (x ∷ xs) = x ∷ filter (λ y. not (bytes_eq x.0 y.0)) (first_of_names xs)

-- the function and its type, of an import that is a function of an adapter
abbrev pub function_of : List ℕ × ImportView → Option (List ℕ × FuncTypeValue)
function_of x = option_map (λ (f : List ℕ × (List ℕ × FuncTypeValue)). f.1) (adapter_function_of x.1)

abbrev pub functions_in : InstanceRecord → List (List ℕ × FuncTypeValue)
functions_in (all_of which) = []
functions_in (names_of names) = filter_map function_of names

-- the functions that are imported from an adapter, with their types: the first of each name
abbrev pub required_in : Records → List ℕ → List (List ℕ × FuncTypeValue)
required_in records adapter = first_of_names (option_map_or functions_in (lookup (bytes_eq adapter) records) [])

abbrev pub required_entry : String Global × FuncType → List ℕ × FuncTypeValue
required_entry e = (string_bytes e.0, func_type_value e.1)

-- single imports by their modules and names, module by module
abbrev pub singles_of : List ℕ × InstanceRecord → List (List ℕ × (List ℕ × ImportView))
singles_of (m, all_of which) = []
singles_of (m, names_of names) = map (λ (x : List ℕ × ImportView). (m, x)) names

abbrev pub imports_in : Records → List (List ℕ × (List ℕ × ImportView))
imports_in records = flat_map singles_of records

-- the memory among recorded imports
abbrev pub memory_in_names : List (List ℕ × ImportView) → Option MemoryType
memory_in_names names = first_by (λ (x : List ℕ × ImportView). memory_type_of x.1) names

abbrev pub memory_in_record : InstanceRecord → Option MemoryType
memory_in_record (all_of which) = None
memory_in_record (names_of names) = memory_in_names names

abbrev pub memory_in : Records → Option MemoryType
memory_in records = first_by (λ (x : List ℕ × InstanceRecord). memory_in_record x.1) records
