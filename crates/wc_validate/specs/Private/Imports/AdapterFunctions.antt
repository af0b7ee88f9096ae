-- Functions of adapters, or what is kept of them by their names, gathered from imports.
use Rattle.std.specs.Prelude.{◌≡◌, ℕ, List, [], map, String, string_bytes, ◌++◌, ◌∷◌, OnOk, Result}
use Rattle.std.specs.List.{cons_option, filter_map}
use Rattle.std.specs.declared.alloc.Global.{Global}
use Rattle.wc_read.specs.declared.types.FuncType.{FuncType}
use Rattle.wc_read.specs.Types.{FuncTypeValue, func_type_value}
use Rattle.wc_names.specs.declared.imports.Import.{Import}
use Rattle.wc_names.specs.Views.{ImportView, import_view}
use Rattle.wc_validate.specs.Private.Imports.Arguments.{IsIndexOf}
use Rattle.wc_validate.specs.Imports.FirstFunctions.{positioned_function, function_at, positioned_functions}
use Rattle.wc_texts.specs.Names.{named_view}
use Rattle.wc_validate.specs.Imports.Map.{first_of_names, function_of, required_entry}
use Rattle.wc_validate.specs.Imports.Instances.{import_entry}

-- there is one entry, under a name
abbrev pub IsOneEntry : {V : Type 0} → List ℕ → V → List (String Global × V) → Type 0
IsOneEntry name value entries = (k : String Global) × (string_bytes k ≡ name) × (entries ≡ (k, value) ∷ [])

-- entries are the first of each name among others, and are found by their names
abbrev pub HasFirsts : {X : Type 0} → List (List ℕ × X) → List (List ℕ × X) → Type 0
HasFirsts functions passed = (functions ≡ first_of_names passed) × IsIndexOf functions passed

-- the function of an adapter that an import is, if it is one
abbrev pub functions_of : ImportView → List (List ℕ × FuncTypeValue)
functions_of i = cons_option (function_of ([], i)) []

-- types of functions of an adapter, as the code has them, are the first of each name
abbrev pub AreFirstTypes : List (String Global × FuncType) → List (List ℕ × FuncTypeValue) → Type 0
AreFirstTypes functions passed = HasFirsts (map required_entry functions) passed

abbrev pub AreFirstPositions : List (String Global × ℕ) → List (List ℕ × ℕ) → Type 0
AreFirstPositions positions passed = HasFirsts (map named_view positions) passed

-- the function of an adapter that an import at a position is, if it is one
abbrev pub position_of : ℕ → Import → List (List ℕ × ℕ)
position_of n i = cons_option (positioned_function n ([], import_view i)) []

-- a function was added with its type, or the one that an import is, or positions, after others
abbrev pub IsFunctionAdded : {T F : Type 0} → List (String Global × FuncType) → List (String Global × FuncType) → List ℕ → FuncType → Result T F → Type 0
IsFunctionAdded old new name ty result =
    (passed : List (List ℕ × FuncTypeValue)) → AreFirstTypes old passed → OnOk result (AreFirstTypes new (passed ++ (name, func_type_value ty) ∷ []))

abbrev pub IsRequiredAdded : {T F : Type 0} → List (String Global × FuncType) → List (String Global × FuncType) → Import → Result T F → Type 0
IsRequiredAdded old new i result =
    (passed : List (List ℕ × FuncTypeValue)) → AreFirstTypes old passed → OnOk result (AreFirstTypes new (passed ++ functions_of (import_view i)))

abbrev pub ArePositionsAdded : {T F : Type 0} → List (String Global × ℕ) → List (String Global × ℕ) → List (List ℕ × ℕ) → Result T F → Type 0
ArePositionsAdded old new positions result =
    (passed : List (List ℕ × ℕ)) → AreFirstPositions old passed → OnOk result (AreFirstPositions new (passed ++ positions))

-- the functions of adapters at positions, of each name the first; and the positions of the first ones
abbrev pub required_at : List (String Global × Import) → List (String Global × ℕ) → List (List ℕ × FuncTypeValue)
required_at names positions = first_of_names (filter_map (λ (e : String Global × ℕ). function_at (map import_entry names) e.1) positions)

abbrev pub first_positions : List (String Global × Import) → List (List ℕ × ℕ)
first_positions names = first_of_names (positioned_functions 0 (map import_entry names))
