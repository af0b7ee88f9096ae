-- Laws of the renaming.
use Rattle.std.specs.Prelude.{◌≡◌, ◌↔◌, cond, List, [], ◌∷◌, Some, None}
use Rattle.std.specs.List.{Contains, AllZip}
use Rattle.std.specs.Str.{bytes_eq}
use Rattle.wc_dedupe.specs.Renaming.{ImportName, Renamed, renames_of, original_in}

-- no two of the names are equal
abbrev pub AreDistinct : List ImportName → Type 0
AreDistinct [] = Unit {0}
AreDistinct (n ∷ ns) = (¬ Contains ns n) × AreDistinct ns

abbrev pub NamesDistinct : Type 0
NamesDistinct = (originals names : List ImportName) → Renamed [] originals names → AreDistinct names

abbrev pub NamesDetermined : Type 0
NamesDetermined = (originals names others : List ImportName) → Renamed [] originals names → Renamed [] originals others → names ≡ others

abbrev pub NamesKept : Type 0
NamesKept = (originals names : List ImportName) → Renamed [] originals names → (names ≡ originals) ↔ AreDistinct originals

-- for each name the list of renames has the original name where the two differ, and nothing where they are the same
abbrev pub NamesGiveOriginals : Type 0
NamesGiveOriginals = (originals names : List ImportName) → Renamed [] originals names
    → AllZip (λ (s : ImportName) (n : ImportName). original_in (renames_of originals names) n.module_name n.name ≡ cond (bytes_eq s.name n.name) None (Some s.name)) originals names
