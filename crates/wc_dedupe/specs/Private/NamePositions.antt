-- Names of imports as pairs of texts, in ascending order; and such pairs with an index.
use Rattle.std.specs.Prelude.{◌≡◌, ◌≢◌, ℕ, ◌-◌, ◌<◌, ◌⊎◌, List, [], ◌∷◌, ◌++◌, map, length, Some, slice_get}
use denote.Ref.{Bor}
use Rattle.std.specs.declared.cmp.Ordering.{Ordering}
use Rattle.std.specs.declared.cmp.Ordering.TheVariants.{Less}
use Rattle.std.specs.List.{Contains}
use Rattle.std.specs.Ordering.{nat_cmp, ordering_then}
use Rattle.std.specs.Cmp.Lexicographic.{slice_cmp}
use Rattle.wc_dedupe.specs.Renaming.{ImportName}

abbrev pub Texts : Type 0
Texts = Bor (List ℕ) × Bor (List ℕ)

abbrev pub named : Texts → ImportName
named t = record { module_name = t.0.now; name = t.1.now }

abbrev pub names_of : List Texts → List ImportName
names_of ts = map named ts

-- a name with an index
abbrev pub NameEntry : Type 0
NameEntry = Bor (List ℕ) × Bor (List ℕ) × ℕ

abbrev pub entry_name : NameEntry → ImportName
entry_name e = named (e.0, e.1)

-- the order of names: that of their modules, or of the names where the modules are equal
abbrev pub names_cmp : ImportName → ImportName → Ordering
names_cmp a b = ordering_then (slice_cmp nat_cmp a.module_name b.module_name) (slice_cmp nat_cmp a.name b.name)

-- that of entries: the order of their names, or of the indices where the names are equal
abbrev pub entries_cmp : NameEntry → NameEntry → Ordering
entries_cmp x y = ordering_then (names_cmp (entry_name x) (entry_name y)) (nat_cmp x.2 y.2)

-- each name is before those after it
abbrev pub Ascend : List Texts → Type 0
Ascend [] = Unit {0}
Ascend (x ∷ []) = Unit {0}
Ascend (x ∷ y ∷ ts) = (names_cmp (named x) (named y) ≡ Less) × Ascend (y ∷ ts)

-- the first k names of a list, each with its index
pub record AreEntries (given : List ImportName) (k : ℕ) (entries : List NameEntry) : Type 0 where
  pub as_long : length entries ≡ k
  pub names : (e : NameEntry) → Contains entries e → slice_get given e.2 ≡ Some (entry_name e)
  pub all : (i : ℕ) → i < k → (e : NameEntry) × Contains entries e × (e.2 ≡ i)

-- a name is appended where it is not the last
abbrev pub PushesNew : List Texts → List Texts → Texts → Type 0
PushesNew old new t =
    ((l : Texts) × (slice_get old (length old - 1) ≡ Some l) × (named l ≡ named t) × (new ≡ old))
    ⊎ (((l : Texts) → slice_get old (length old - 1) ≡ Some l → named l ≢ named t) × (new ≡ old ++ t ∷ []))

-- where each name is among the names without repeats
pub record HavePositions (names distinct : List ImportName) (positions : List ℕ) : Type 0 where
  pub as_long : length positions ≡ length names
  pub found : (i : ℕ) (n : ImportName) → slice_get names i ≡ Some n → (p : ℕ) × (slice_get positions i ≡ Some p) × (slice_get distinct p ≡ Some n)
