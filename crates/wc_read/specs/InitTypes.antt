-- What initialisers leave (WebAssembly core specification, 3.3.10): one value, as a constant, or as two values and an
-- operator on integers after them. Of a reference only its class counts.
use Rattle.std.specs.Prelude.{◌≡◌, ℕ, List, [], ◌∷◌, ◌++◌, map, nat_lt, Bool, true, false, not, if◌then◌else◌, Option, Some, None}
use Rattle.std.specs.List.{slice_get}
use Rattle.wc_read.specs.Options.{◌>>=◌}
use Rattle.wc_read.specs.Types.{has_type_index}
use Rattle.wc_read.specs.Items.{DefValue, imported, local, GlobalValue}
use Rattle.wc_read.specs.Operators.{ImmediatesValue, WithIndex, WithRefType, InstrValue}
use Rattle.wc_read.specs.Inits.{constant_of, end_value, SpellsInit}
use Rattle.wc_read.specs.declared.types.ValType.{ValType}
use Rattle.wc_read.specs.declared.types.ValType.TheVariants.{I32, I64, F32, F64, V128, FuncRef, ExternRef, FuncRefNonNull, ExternRefNonNull, TypeRef}
use Rattle.wc_read.specs.declared.types.GlobalType.{GlobalType}
use Rattle.wc_read.specs.declared.operators.Opcode.{Opcode}
use Rattle.wc_read.specs.declared.inits.ValueClass.{ValueClass}
use Rattle.wc_read.specs.declared.inits.ValueClass.TheVariants.{I32 as I32Class, I64 as I64Class, F32 as F32Class, F64 as F64Class, V128 as V128Class, Func as FuncClass, Extern as ExternClass}
use Rattle.wc_read.specs.declared.inits.Constant.{Constant}
use Rattle.wc_read.specs.declared.inits.Constant.TheVariants.{Value, Null, Func, Global, Integer}

abbrev pub types_of : List GlobalValue → List GlobalType
types_of gs = map (λ g. g.ty) gs

-- what an initialiser may name: so many types and functions, and the globals before its own
pub record InitScope : Type 0 where
  pub types : ℕ
  pub functions : ℕ
  pub globals : List GlobalType

-- all references to functions are one class, whatever they refer to and whether null is among them; so are all
-- references to values of the host. Any other type is a class of its own

abbrev pub class_of : ValType → ValueClass
class_of I32 = I32Class
class_of I64 = I64Class
class_of F32 = F32Class
class_of F64 = F64Class
class_of V128 = V128Class
class_of FuncRef = FuncClass
class_of FuncRefNonNull = FuncClass
class_of (TypeRef nullable index) = FuncClass
class_of ExternRef = ExternClass
class_of ExternRefNonNull = ExternClass

-- a type of references without null
abbrev pub is_non_null : ValType → Bool
is_non_null FuncRefNonNull = true
is_non_null ExternRefNonNull = true
is_non_null (TypeRef nullable index) = not nullable
is_non_null _ = false

-- the class of the value that an operator gives by itself, for a global of type `wanted`: a null only where that type
-- has null, and of a type that is there; the value of a global only where that is immutable

abbrev pub class_named : ℕ → ImmediatesValue → Option ValueClass
class_named types (WithRefType t) = if has_type_index types t then Some (class_of t) else None
class_named types _ = None

abbrev pub number_named : ImmediatesValue → Option ℕ
number_named (WithIndex i) = Some i.number
number_named _ = None

abbrev pub global_value_class : List GlobalType → ℕ → Option ValueClass
global_value_class globals n = slice_get globals n >>= λ g. if g.mutable then None else Some (class_of g.content_type)

abbrev pub given_by : InitScope → ValType → ImmediatesValue → Constant → Option ValueClass
given_by scope wanted v (Value t) = Some (class_of t)
given_by scope wanted v Null = if is_non_null wanted then None else class_named scope.types v
given_by scope wanted v Func = number_named v >>= λ n. if nat_lt n scope.functions then Some FuncClass else None
given_by scope wanted v Global = number_named v >>= global_value_class scope.globals
given_by scope wanted v (Integer t) = None

abbrev pub constant_class : InitScope → ValType → InstrValue → Option ValueClass
constant_class scope wanted i = constant_of i.opcode >>= given_by scope wanted i.immediates

-- the class of an operator's integers

abbrev pub integer_class : Constant → Option ValueClass
integer_class (Integer t) = Some (class_of t)
integer_class _ = None

abbrev pub integers_class : Opcode → Option ValueClass
integers_class code = constant_of code >>= integer_class

-- operators that leave one value, of the class of a type, and nothing else
pub data LeavesOne : InitScope → ValType → List InstrValue → Type 0 where
  alone : {scope : InitScope} {t : ValType} (i : InstrValue) → constant_class scope t i ≡ Some (class_of t) → LeavesOne scope t (i ∷ [])
  joined : {scope : InitScope} {t : ValType} (xs ys : List InstrValue) (i : InstrValue) → integers_class i.opcode ≡ Some (class_of t) → LeavesOne scope t xs → LeavesOne scope t ys → LeavesOne scope t (xs ++ (ys ++ (i ∷ [])))

-- the bytes of an initialiser that leaves such a value
pub record IsTyped (scope : InitScope) (t : ValType) (bytes : List ℕ) : Type 0 where
  pub operators : List InstrValue
  pub front : List InstrValue
  pub has_operators : SpellsInit bytes operators
  pub cut : operators ≡ front ++ (end_value ∷ [])
  pub leaves : LeavesOne scope t front

abbrev pub IsTypedDef : InitScope → ValType → DefValue (List ℕ) → Type 0
IsTypedDef scope t (local init) = IsTyped scope t init
IsTypedDef scope t (imported m n) = Unit

-- the initialiser of a global that is not imported leaves one value of the global's type
abbrev pub IsTypedGlobal : InitScope → GlobalValue → Type 0
IsTypedGlobal scope g = IsTypedDef scope g.ty.content_type g.def

-- what an initialiser may name: so many types and functions, and the globals before one
abbrev pub scope_of : ℕ → ℕ → List GlobalValue → InitScope
scope_of types functions front = record { types = types; functions = functions; globals = types_of front }

-- each initialiser of a local global leaves one value of its global's type
abbrev pub AreTyped : ℕ → ℕ → List GlobalValue → Type 0
AreTyped types functions gs = (front back : List GlobalValue) (g : GlobalValue) → gs ≡ front ++ (g ∷ back) → IsTypedGlobal (scope_of types functions front) g
