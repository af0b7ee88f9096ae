-- Positions of the first imports of functions of adapters.
use Rattle.std.specs.Prelude.{◌≡◌, ℕ, suc, List, [], ◌∷◌, map, Option, String, string_bytes, OnOk, Result, cond}
use Rattle.std.specs.List.{cons_option}
use Rattle.std.specs.Map.{lookup}
use Rattle.std.specs.Option.{option_and_then, option_map, option_map_or}
use Rattle.std.specs.Prelude.{slice_get}
use Rattle.std.specs.Str.{bytes_eq}
use Rattle.std.specs.declared.alloc.Global.{Global}
use Rattle.indexmap.specs.IndexMap.{IndexMap, get_by}
use Rattle.wc_read.specs.Types.{FuncTypeValue}
use Rattle.wc_names.specs.Views.{ImportView}
use Rattle.wc_texts.specs.Names.{named_view}
use Rattle.wc_validate.specs.declared.imports.first_functions.FirstFunctions.{FirstFunctions}
use Rattle.wc_validate.specs.declared.imports.instances.ImportInstance.{ImportInstance}
use Rattle.wc_validate.specs.Imports.Entries.{InstanceRecord, Records, all_of, names_of}
use Rattle.wc_validate.specs.Imports.Map.{first_of_names, function_of}
use Rattle.wc_validate.specs.Imports.Instances.{instance_view}

-- a function with the position of its import, if an import is one of an adapter
abbrev pub positioned_function : ℕ → List ℕ × ImportView → Option (List ℕ × ℕ)
positioned_function n x = option_map (λ (f : List ℕ × FuncTypeValue). (f.0, n)) (function_of x)

-- the functions of adapters among imports, with their positions from n
abbrev pub positioned_functions : ℕ → List (List ℕ × ImportView) → List (List ℕ × ℕ)
positioned_functions n [] = []
positioned_functions n (x ∷ xs) = cons_option (positioned_function n x) (positioned_functions (suc n) xs)

-- the function that is imported at a position
abbrev pub function_at : List (List ℕ × ImportView) → ℕ → Option (List ℕ × FuncTypeValue)
function_at names n = option_and_then function_of (slice_get names n)

-- of what is recorded of a module, the position of the first import of each function of an adapter, in their order
abbrev pub first_functions : InstanceRecord → List (List ℕ × ℕ)
first_functions (all_of which) = []
first_functions (names_of names) = first_of_names (positioned_functions 0 names)

abbrev pub first_functions_of : ImportInstance → List (List ℕ × ℕ)
first_functions_of instance = first_functions (instance_view instance)

abbrev pub position_entries : {S : Type 0} → IndexMap (String Global) ℕ S → List (List ℕ × ℕ)
position_entries names = map named_view names.entries

-- the positions that are kept of a module, if there are any
abbrev pub positions_under : FirstFunctions → List ℕ → List (List ℕ × ℕ)
positions_under first m = option_map_or position_entries (get_by (λ k. bytes_eq m (string_bytes k)) first.modules) []

-- what is kept of each module is the positions of the first import of each function of an adapter; nothing where there
-- is no such import
abbrev pub HasFirstFunctions : FirstFunctions → Records → Type 0
HasFirstFunctions first records = (m : List ℕ) → positions_under first m ≡ option_map_or first_functions (lookup (bytes_eq m) records) []

-- the positions of a module that has none were added
abbrev pub IsModuleNoted : {T F : Type 0} → FirstFunctions → FirstFunctions → List ℕ → ImportInstance → Result T F → Type 0
IsModuleNoted old new name instance result =
    (m : List ℕ) → positions_under old name ≡ []
    → OnOk result (positions_under new m ≡ cond (bytes_eq m name) (first_functions_of instance) (positions_under old m))
