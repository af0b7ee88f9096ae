-- The types of a module: the values that they stand for in contracts, and how bytes spell them
-- (WebAssembly core specification, 2.3 and 5.3).
use Rattle.std.specs.Prelude.{◌≡◌, ℕ, nat_lt, pos, List, take, drop, [], ◌∷◌, ◌++◌, Bool, true, false, ◌||◌, ◌⊎◌, Option, Some, None, is_some, IsTrue, All}
use Rattle.std.specs.List.{filter_map, list_any}
use Rattle.std.specs.Option.{option_map_or}
use Rattle.wc_read.specs.Formats.{Format, Tagged}
use Rattle.wc_read.specs.Signed.{SpellsSigned}
use Rattle.wc_read.specs.declared.types.ValType.{ValType}
use Rattle.wc_read.specs.declared.types.ValType.TheVariants.{I32, I64, F32, F64, V128, FuncRef, ExternRef, FuncRefNonNull, ExternRefNonNull, TypeRef}
use Rattle.wc_read.specs.declared.types.FuncType.{FuncType}
use Rattle.wc_read.specs.declared.types.FuncTypes.{FuncTypes}
use Rattle.wc_read.specs.declared.types.FuncTypes.TheVariants.{Short, Long, Shared}
use Rattle.wc_read.specs.declared.short_types.ShortTypes.{ShortTypes}
use Rattle.wc_read.specs.declared.types.GlobalType.{GlobalType}

-- a function type: parameters and results
pub record FuncTypeValue : Type 0 where
  pub params : List ValType
  pub results : List ValType

-- few types are in one list: those of the parameters first, and after them those of the results

abbrev pub short_params : ShortTypes → List ValType
short_params s = take s.params s.types

abbrev pub short_results : ShortTypes → List ValType
short_results s = take s.results (drop s.params s.types)

abbrev pub types_value : FuncTypes → FuncTypeValue
types_value (Short s) = record { params = short_params s; results = short_results s }
types_value (Long types) = record { params = types.params.items; results = types.results.items }
types_value (Shared types) = record { params = types.value.params.items; results = types.value.results.items }

abbrev pub func_type_value : FuncType → FuncTypeValue
func_type_value f = types_value f.types

-- the types of a function's parameters, and of its results
abbrev pub params_of : FuncType → List ValType
params_of f = (func_type_value f).params

abbrev pub results_of : FuncType → List ValType
results_of f = (func_type_value f).results

-- references to functions of any type, and to values of the host: with null, or without

abbrev pub func_ref : Bool → ValType
func_ref true = FuncRef
func_ref false = FuncRefNonNull

abbrev pub extern_ref : Bool → ValType
extern_ref true = ExternRef
extern_ref false = ExternRefNonNull

-- the byte that begins a reference type: with null, or without (proposal of typed function references)
abbrev pub nullable_code : Bool → ℕ
nullable_code true = 0x63
nullable_code false = 0x64

-- the index of a type, as a signed number of 33 bits (5.4.1, and the proposal of typed function references)
abbrev pub SpellsTypeIndex : Format ℕ
SpellsTypeIndex bytes index = SpellsSigned 33 bytes (pos index)

-- a value type (5.3.1 to 5.3.4, and the proposal of typed function references): `FuncRef` and `ExternRef` have a short
-- encoding and a long one
abbrev pub SpellsValType : Format ValType
SpellsValType bytes I32 = bytes ≡ 0x7f ∷ []
SpellsValType bytes I64 = bytes ≡ 0x7e ∷ []
SpellsValType bytes F32 = bytes ≡ 0x7d ∷ []
SpellsValType bytes F64 = bytes ≡ 0x7c ∷ []
SpellsValType bytes V128 = bytes ≡ 0x7b ∷ []
SpellsValType bytes FuncRef = (bytes ≡ 0x70 ∷ []) ⊎ (bytes ≡ 0x63 ∷ 0x70 ∷ [])
SpellsValType bytes ExternRef = (bytes ≡ 0x6f ∷ []) ⊎ (bytes ≡ 0x63 ∷ 0x6f ∷ [])
SpellsValType bytes FuncRefNonNull = bytes ≡ 0x64 ∷ 0x70 ∷ []
SpellsValType bytes ExternRefNonNull = bytes ≡ 0x64 ∷ 0x6f ∷ []
SpellsValType bytes (TypeRef nullable index) = Tagged (nullable_code nullable) SpellsTypeIndex bytes index

-- reference types: those of the elements of tables
abbrev pub is_reference : ValType → Bool
is_reference I32 = false
is_reference I64 = false
is_reference F32 = false
is_reference F64 = false
is_reference V128 = false
is_reference FuncRef = true
is_reference ExternRef = true
is_reference FuncRefNonNull = true
is_reference ExternRefNonNull = true
is_reference (TypeRef nullable index) = true

abbrev pub IsReference : ValType → Type 0
IsReference t = IsTrue (is_reference t)

-- the index of a type in a value type
abbrev pub type_index : ValType → Option ℕ
type_index (TypeRef nullable index) = Some index
type_index _ = None

abbrev pub names_type : ValType → Bool
names_type t = is_some (type_index t)

-- the type index in a value type, if there is one, is below a number
abbrev pub has_type_index : ℕ → ValType → Bool
has_type_index types t = option_map_or (λ index. nat_lt index types) (type_index t) true

abbrev pub HasTypeIndex : ℕ → ValType → Type 0
HasTypeIndex types t = IsTrue (has_type_index types t)

abbrev pub HaveTypeIndices : ℕ → FuncTypeValue → Type 0
HaveTypeIndices types f = All (HasTypeIndex types) f.params × All (HasTypeIndex types) f.results

abbrev pub type_indices : List ValType → List ℕ
type_indices ts = filter_map type_index ts

-- whether a parameter or a result names a type
abbrev pub names_types : FuncTypeValue → Bool
names_types f = list_any names_type f.params || list_any names_type f.results

-- whether a global may be written (5.3.10)
abbrev pub mutable_code : Bool → ℕ
mutable_code false = 0
mutable_code true = 1

-- a global type: a value type, and whether it may be written
abbrev pub SpellsGlobal : Format GlobalType
SpellsGlobal bytes g =
    (ty : List ℕ) × (bytes ≡ ty ++ (mutable_code g.mutable ∷ [])) × SpellsValType ty g.content_type
