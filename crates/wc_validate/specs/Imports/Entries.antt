-- What the imports of a core module are recorded as: entries, and the same by modules.
use Rattle.std.specs.Prelude.{◌≡◌, ℕ, List, [], ◌∷◌, map, Option, Some, None, if◌then◌else◌}
use Rattle.std.specs.List.{filter_map}
use Rattle.std.specs.Map.{lookup}
use Rattle.std.specs.Option.{option_and_then}
use Rattle.std.specs.Str.{bytes_eq}
use Rattle.wc_texts.specs.Names.{first_occurrences}
use Rattle.wc_read.specs.declared.types.MemoryType.{MemoryType}
use Rattle.wc_read.specs.Types.{FuncTypeValue}
use Rattle.wc_adapters.specs.Adapters.{WhichView}
use Rattle.wc_names.specs.Views.{ImportView, adapter_export, main_module_memory}
use Rattle.wc_validate.specs.Imports.AdapterTypes.{first_some, one_type}

-- what an import is recorded as: an import of a module under a name; or a module of the component that is all of the
-- imported module
pub data Entry : Type 0 where
  single : List ℕ → List ℕ → ImportView → Entry
  whole : List ℕ → WhichView → Entry

abbrev pub entry_module : Entry → List ℕ
entry_module (single m name i) = m
entry_module (whole m which) = m

-- what is recorded of a module: another module of the component; or single imports by their names
pub data InstanceRecord : Type 0 where
  all_of : WhichView → InstanceRecord
  names_of : List (List ℕ × ImportView) → InstanceRecord

abbrev pub single_of : List ℕ → Entry → Option (List ℕ × ImportView)
single_of m (single k name i) = if bytes_eq m k then Some (name, i) else None
single_of m (whole k which) = None

abbrev pub whole_of : List ℕ → Entry → Option WhichView
whole_of m (single k name i) = None
whole_of m (whole k which) = if bytes_eq m k then Some which else None

abbrev pub instance_record : List Entry → List ℕ → List WhichView → InstanceRecord
instance_record xs m [] = names_of (filter_map (single_of m) xs)
instance_record xs m (which ∷ others) = all_of which

-- modules by their names, with what is recorded of each
abbrev pub Records : Type 0
Records = List (List ℕ × InstanceRecord)

-- entries by modules: modules in the order of their first occurrences, and the imports of each in order
abbrev pub by_modules : List Entry → Records
by_modules xs = map (λ m. (m, instance_record xs m (filter_map (whole_of m) xs))) (first_occurrences (map entry_module xs))

-- a module is recorded as all of another one; a name of a module is recorded
abbrev pub IsAllRecorded : Records → List ℕ → Type 0
IsAllRecorded records m = (which : WhichView) × (lookup (bytes_eq m) records ≡ Some (all_of which))

abbrev pub IsNameRecorded : Records → List ℕ → List ℕ → Type 0
IsNameRecorded records m name =
    (names : List (List ℕ × ImportView)) × (other : ImportView) × (lookup (bytes_eq m) records ≡ Some (names_of names)) × (lookup (bytes_eq name) names ≡ Some other)

-- the type of the memory, of an import that is the main module's memory
abbrev pub memory_type_of : ImportView → Option MemoryType
memory_type_of (main_module_memory ty) = Some ty
memory_type_of i = None

abbrev pub memory_of : Entry → Option MemoryType
memory_of (single m name i) = memory_type_of i
memory_of (whole m which) = None

-- the adapter, its function and the function's type, of an import that is a function of an adapter
abbrev pub adapter_function_of : ImportView → Option (List ℕ × (List ℕ × FuncTypeValue))
adapter_function_of (adapter_export adapter function ty) = Some (adapter, (function, ty))
adapter_function_of i = None

-- the type with which an import, or an entry, imports this function of an adapter
abbrev pub adapter_type_in : List ℕ → List ℕ → ImportView → Option FuncTypeValue
adapter_type_in adapter function i = option_and_then (λ (x : List ℕ × (List ℕ × FuncTypeValue)). one_type x.0 x.1.0 x.1.1 adapter function) (adapter_function_of i)

abbrev pub adapter_type_of : List ℕ → List ℕ → Entry → Option FuncTypeValue
adapter_type_of adapter function (single m name i) = adapter_type_in adapter function i
adapter_type_of adapter function (whole m which) = None

-- the first of a list that there is by f
abbrev pub first_by : {X Y : Type 0} → (X → Option Y) → List X → Option Y
first_by f [] = None
first_by f (x ∷ xs) = first_some (f x) (first_by f xs)
