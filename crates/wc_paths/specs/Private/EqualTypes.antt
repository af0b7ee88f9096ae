-- Types of a module that are equal.
use Rattle.std.specs.Prelude.{◌≡◌, ◌≢◌, ℕ, ◌<◌, ◌+◌, List, [], ◌∷◌, length, Bool, true, false, ◌&&◌, nat_eq, MatchOption, Some}
use Rattle.std.specs.Cmp.Lexicographic.{pointwise}
use Rattle.std.specs.List.{flat_map, slice_get}
use Rattle.std.specs.Map.{lookup}
use Rattle.std.specs.declared.alloc.Global.{Global}
use Rattle.std.specs.declared.vec.Vec.{Vec}
use Rattle.wc_read.specs.Types.{FuncTypeValue}
use Rattle.wc_read.specs.declared.types.ValType.{ValType}
use Rattle.wc_read.specs.declared.types.ValType.TheVariants.{I32, I64, F32, F64, V128, FuncRef, ExternRef, FuncRefNonNull, ExternRefNonNull, TypeRef}

-- a type as two numbers: its variant, and the index of a type that it names
abbrev pub type_numbers : ValType → List ℕ
type_numbers I32 = 0 ∷ 0 ∷ []
type_numbers I64 = 1 ∷ 0 ∷ []
type_numbers F32 = 2 ∷ 0 ∷ []
type_numbers F64 = 3 ∷ 0 ∷ []
type_numbers V128 = 4 ∷ 0 ∷ []
type_numbers FuncRef = 5 ∷ 0 ∷ []
type_numbers ExternRef = 6 ∷ 0 ∷ []
type_numbers FuncRefNonNull = 7 ∷ 0 ∷ []
type_numbers ExternRefNonNull = 8 ∷ 0 ∷ []
type_numbers (TypeRef true index) = 9 ∷ index ∷ []
type_numbers (TypeRef false index) = 10 ∷ index ∷ []

-- a function type as a key: the numbers of its parameters, and of its results
abbrev pub TypeKey : Type 0
TypeKey = Vec ℕ Global × Vec ℕ Global

abbrev pub IsKeyOf : FuncTypeValue → TypeKey → Type 0
IsKeyOf t k = (k.0.items ≡ flat_map type_numbers t.params) × (k.1.items ≡ flat_map type_numbers t.results)

abbrev pub is_key : FuncTypeValue → TypeKey → Bool
is_key t k = pointwise nat_eq (flat_map type_numbers t.params) k.0.items && pointwise nat_eq (flat_map type_numbers t.results) k.1.items

-- the first of these types that is this one is at the index
pub record IsFirstType (types : List FuncTypeValue) (t : FuncTypeValue) (k : ℕ) : Type 0 where
  pub is : slice_get types k ≡ Some t
  pub first : (j : ℕ) → j < k → slice_get types j ≢ Some t

-- of the types before an index the first that is equal to each; none, where none is
abbrev pub AreTypesBefore : List FuncTypeValue → ℕ → List (TypeKey × ℕ) → Type 0
AreTypesBefore types n places =
    (t : FuncTypeValue) → MatchOption (lookup (is_key t) places) ((j : ℕ) → j < n → slice_get types j ≢ Some t) (IsFirstType types t)

-- the type at an index was noted too, and this is the first that is equal to it
abbrev pub NotesType : FuncTypeValue → ℕ → List (TypeKey × ℕ) → List (TypeKey × ℕ) → ℕ → Type 0
NotesType t n old new first =
    (types : List FuncTypeValue) → slice_get types n ≡ Some t → AreTypesBefore types n old → AreTypesBefore types (n + 1) new × IsFirstType types t first

-- for each of the types before an index the first that is equal to it
pub record AreFirstBefore (types : List FuncTypeValue) (n : ℕ) (firsts : List ℕ) : Type 0 where
  pub sized : length firsts ≡ n
  pub at : (i k : ℕ) (t : FuncTypeValue) → slice_get firsts i ≡ Some k → slice_get types i ≡ Some t → IsFirstType types t k

-- for each type
abbrev pub AreFirstEqual : List FuncTypeValue → List ℕ → Type 0
AreFirstEqual types firsts = AreFirstBefore types (length types) firsts
