-- Names that are listed under names, and the functions that a module imports.
use Rattle.std.specs.Prelude.{ℕ, List, map, filter, Bool, true, false}
use Rattle.std.specs.Borrow.{Bor}
use Rattle.std.specs.Str.{bytes_eq}
use Rattle.wc_read.specs.Imports.{ImportValue}
use Rattle.wc_read.specs.declared.types.ImportType.{ImportType}
use Rattle.wc_read.specs.declared.types.ImportType.TheVariants.{Func, Table, Memory, Global}

-- a key, and a name
abbrev pub NamePair : Type 0
NamePair = List ℕ × List ℕ

abbrev pub pair_view : Bor (List ℕ) × Bor (List ℕ) → NamePair
pair_view p = (p.0.now, p.1.now)

-- the names that come with a key, in order
abbrev pub names_under : List NamePair → List ℕ → List (List ℕ)
names_under pairs key = map (λ (p : NamePair). p.1) (filter (λ (p : NamePair). bytes_eq p.0 key) pairs)

-- the functions among imports, by their modules and names
abbrev pub is_function : ImportType → Bool
is_function (Func index) = true
is_function (Table t) = false
is_function (Memory t) = false
is_function (Global t) = false

abbrev pub function_pairs : List ImportValue → List NamePair
function_pairs imports = map (λ (i : ImportValue). (i.module_name, i.name)) (filter (λ (i : ImportValue). is_function i.ty) imports)
