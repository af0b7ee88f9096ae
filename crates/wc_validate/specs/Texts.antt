-- The texts of the fault that carries a name, and of what faults are about.
use Rattle.std.specs.Prelude.{ℕ, Bool, List, [], ◌∷◌, ◌++◌, Option, Some, None, true, false, codes, decimal, flat_map, string_bytes}
use Rattle.wc_read.specs.declared.types.ValType.{ValType}
use Rattle.wc_read.specs.declared.types.ValType.TheVariants.{I32, I64, F32, F64, V128, FuncRef, ExternRef, FuncRefNonNull, ExternRefNonNull, TypeRef}
use Rattle.wc_read.specs.Place.{read_place_text}
use Rattle.wc_read.specs.Types.{FuncTypeValue, names_types}
use Rattle.wc_texts.specs.FaultTexts.{quoted_text}
use Rattle.wc_validate.specs.declared.fault.AdapterModuleDidNotExport.{AdapterModuleDidNotExport}
use Rattle.wc_validate.specs.Place.{DifferenceView, PlaceView, SubjectView, an_import, an_export, missing_function, missing_export, some_bytes}

-- the name of what an adapter doesn't export
abbrev pub name_not_exported : AdapterModuleDidNotExport → List ℕ
name_not_exported e = string_bytes e.0

abbrev pub not_exported_text : List ℕ → List ℕ
not_exported_text = quoted_text (codes "adapter module did not export")

-- a name in quotation marks, as it is
abbrev pub quoted : List ℕ → List ℕ
quoted name = codes "\"" ++ (name ++ codes "\"")

-- what a fault is about, by its names
abbrev pub subject_text : SubjectView → List ℕ
subject_text (an_import module_name name index) = codes "import " ++ (quoted module_name ++ (codes " " ++ quoted name))
subject_text (an_export name) = codes "export " ++ quoted name
subject_text (missing_function module_name name) = codes "missing " ++ (quoted module_name ++ (codes " " ++ quoted name))
subject_text (missing_export name) = codes "missing export " ++ quoted name
subject_text (some_bytes p) = read_place_text p

-- a value type, as the text format has it (WebAssembly core specification, 6.4)
abbrev pub type_name : ValType → List ℕ
type_name I32 = codes "i32"
type_name I64 = codes "i64"
type_name F32 = codes "f32"
type_name F64 = codes "f64"
type_name V128 = codes "v128"
type_name FuncRef = codes "funcref"
type_name ExternRef = codes "externref"
type_name FuncRefNonNull = codes "(ref func)"
type_name ExternRefNonNull = codes "(ref extern)"
type_name (TypeRef true index) = codes "(ref null " ++ (decimal index ++ codes ")")
type_name (TypeRef false index) = codes "(ref " ++ (decimal index ++ codes ")")

-- value types, with a comma and a blank between two of them
abbrev pub after_comma : ValType → List ℕ
after_comma t = codes ", " ++ type_name t

abbrev pub type_list_text : List ValType → List ℕ
type_list_text [] = []
type_list_text (t ∷ ts) = type_name t ++ flat_map after_comma ts

-- the results of a function: one alone, and any other number of them in parentheses
abbrev pub results_text : List ValType → List ℕ
results_text (t ∷ []) = type_name t
results_text ts = codes "(" ++ (type_list_text ts ++ codes ")")

-- a function type: the parameters in parentheses, an arrow, and the results
abbrev pub signature_text : FuncTypeValue → List ℕ
signature_text f = codes "(" ++ (type_list_text f.params ++ (codes ") -> " ++ results_text f.results))

-- whose types the indices of a type that is wanted are, if it has any: they mean nothing in the module that is found
abbrev pub owner_text : Bool → List ℕ
owner_text true = codes " by the types of the importing module"
owner_text false = []

-- the core types that differ
abbrev pub difference_text : DifferenceView → List ℕ
difference_text d =
    codes "wanted " ++ (signature_text d.wanted ++ (owner_text (names_types d.wanted) ++ (codes ", found " ++ signature_text d.found)))

-- what a fault is about; and after it, where it compares types, a line feed and the types
abbrev pub types_text : Option DifferenceView → List ℕ
types_text None = []
types_text (Some d) = codes "\n" ++ difference_text d

abbrev pub place_text : PlaceView → List ℕ
place_text p = subject_text p.subject ++ types_text p.types
