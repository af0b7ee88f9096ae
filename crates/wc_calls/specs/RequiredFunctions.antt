-- The functions that a caller requires of an adapter, in the binary format (WebAssembly core specification, 5.1.3, 5.2.4 and
-- 5.3.6).
use Rattle.std.specs.Prelude.{◌≡◌, ◌≢◌, ◌++◌, ℕ, List, map}
use Rattle.std.specs.List.{AllPairs}
use Rattle.wc_read.specs.Contents.{SpellsFuncType}
use Rattle.wc_read.specs.Formats.{Format, SpellsName, SpellsVector}
use Rattle.wc_read.specs.Types.{FuncTypeValue}

-- a function: its name, and after it its type
abbrev pub SpellsFunction : Format (List ℕ × FuncTypeValue)
SpellsFunction bytes f = (name ty : List ℕ) × (bytes ≡ name ++ ty) × SpellsName name f.0 × SpellsFuncType ty f.1

abbrev pub names_in : List (List ℕ × FuncTypeValue) → List (List ℕ)
names_in fs = map (λ (f : List ℕ × FuncTypeValue). f.0) fs

-- the bytes are a vector of these functions, no two of which have one name
abbrev pub AreRequired : List ℕ → List (List ℕ × FuncTypeValue) → Type 0
AreRequired bytes fs = SpellsVector SpellsFunction bytes fs × AllPairs (λ m n. m ≢ n) (names_in fs)

-- there are no such functions
abbrev pub IsNotRequired : List ℕ → Type 0
IsNotRequired bytes = (fs : List (List ℕ × FuncTypeValue)) → ¬ (AreRequired bytes fs)
