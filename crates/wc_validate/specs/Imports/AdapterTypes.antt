-- The types with which functions of adapters were imported first.
use Rattle.std.specs.Prelude.{◌≡◌, ℕ, Bool, List, ◌&&◌, map, Option, Some, None, if◌then◌else◌, unwrap_or, String, string_bytes}
use Rattle.std.specs.Map.{lookup}
use Rattle.std.specs.Str.{bytes_eq}
use Rattle.std.specs.declared.alloc.Global.{Global}
use Rattle.wc_read.specs.declared.types.FuncType.{FuncType}
use Rattle.wc_read.specs.Types.{FuncTypeValue, func_type_value}

-- an adapter, a function of it, and the function's type
abbrev pub type_entry : (String Global × String Global) × FuncType → (List ℕ × List ℕ) × FuncTypeValue
type_entry e = ((string_bytes e.0.0, string_bytes e.0.1), func_type_value e.1)

abbrev pub is_function_key : List ℕ → List ℕ → List ℕ × List ℕ → Bool
is_function_key adapter function key = bytes_eq adapter key.0 && bytes_eq function key.1

-- the type that is noted for a function of an adapter
abbrev pub noted_type : List ((List ℕ × List ℕ) × FuncTypeValue) → List ℕ → List ℕ → Option FuncTypeValue
noted_type types adapter function = lookup (is_function_key adapter function) types

-- the first of two, if it is there, or else the second
abbrev pub first_some : {X : Type 0} → Option X → Option X → Option X
first_some (Some x) o = Some x
first_some None o = o

-- the type of one function of an adapter
abbrev pub one_type : List ℕ → List ℕ → FuncTypeValue → List ℕ → List ℕ → Option FuncTypeValue
one_type adapter function ty a f = if bytes_eq a adapter && bytes_eq f function then Some ty else None

-- the type is the one that is noted, if one is
abbrev pub Agrees : Option FuncTypeValue → FuncTypeValue → Type 0
Agrees noted ty = ty ≡ unwrap_or noted ty

-- types are noted after those that are noted already
abbrev pub IsNotedAfter : List ((String Global × String Global) × FuncType) → (List ℕ → List ℕ → Option FuncTypeValue) → List ((String Global × String Global) × FuncType) → Type 0
IsNotedAfter old types new =
    (adapter function : List ℕ) → noted_type (map type_entry new) adapter function ≡ first_some (noted_type (map type_entry old) adapter function) (types adapter function)
