-- The names of core modules: the custom sections `component-name`. A fault in one refuses nothing: it ends the names of
-- that section.
use Rattle.std.specs.Prelude.{◌≡◌, ◌≢◌, ℕ, suc, Bool, true, false, List, [], ◌∷◌, ◌++◌, map, codes, nat_eq, Option, None}
use Rattle.std.specs.List.{filter, last_or}
use Rattle.wc_read.specs.Custom.{IsCustomSection}
use Rattle.wc_read.specs.Formats.{SpellsNumber, HasNoPrefix}
use Rattle.wc_read.specs.Names.{GlobalNameValue, SpellsGlobalName, Subsection}
use Rattle.wc_read.specs.Sections.{SectionValue, SpellsSection}
use Rattle.wc_component_file.specs.Frames.{FrameValue}

-- the name of the sections
abbrev pub component_name_text : List ℕ
component_name_text = codes "component-name"

-- a subsection of names of core modules: its id is that of names of one sort of items, and its content begins with the
-- bytes of the sort; then come pairs of an index and a name
pub record AreModuleNames (s : SectionValue) (names : List ℕ) : Type 0 where
  pub is_of_sort : s.id ≡ 1
  pub cut : s.content ≡ 0x00 ∷ 0x11 ∷ names

-- so many pairs up to a fault, and whether there is none: all are there, and no bytes follow; bytes follow; no pair is at
-- the front of the bytes; one is, and then come those of the rest
pub data PairsUpTo : ℕ → List ℕ → List GlobalNameValue → Bool → Type 0 where
  all_there : PairsUpTo 0 [] [] true
  bytes_follow : {bytes : List ℕ} → bytes ≢ [] → PairsUpTo 0 bytes [] false
  none_there : {n : ℕ} {bytes : List ℕ} → HasNoPrefix SpellsGlobalName bytes → PairsUpTo (suc n) bytes [] false
  one_there : {n : ℕ} {bytes : List ℕ} {pairs : List GlobalNameValue} {whole : Bool} (p : GlobalNameValue) (text rest : List ℕ) → bytes ≡ text ++ rest → SpellsGlobalName text p → PairsUpTo n rest pairs whole → PairsUpTo (suc n) bytes (p ∷ pairs) whole

-- the pairs after their number, up to a fault, and whether there is none
pub data NumberedPairs : List ℕ → List GlobalNameValue → Bool → Type 0 where
  no_number : {bytes : List ℕ} → HasNoPrefix (SpellsNumber 32) bytes → NumberedPairs bytes [] false
  numbered : {bytes : List ℕ} {pairs : List GlobalNameValue} {whole : Bool} (n : ℕ) (number rest : List ℕ) → bytes ≡ number ++ rest → SpellsNumber 32 number n → PairsUpTo n rest pairs whole → NumberedPairs bytes pairs whole

-- the pairs that subsections give: none where no subsection is at the front, as where nothing is left; a subsection of
-- other names gives none, whatever it holds; one of core modules gives its pairs, and the rest gives more; where it is
-- faulty, it gives the pairs before the fault, and the rest gives none
pub data NamesIn : List ℕ → List GlobalNameValue → Type 0 where
  no_more : {bytes : List ℕ} → HasNoPrefix SpellsSection bytes → NamesIn bytes []
  other_names : {bytes : List ℕ} {pairs : List GlobalNameValue} (s : SectionValue) (rest : List ℕ) → Subsection bytes s rest → ((names : List ℕ) → AreModuleNames s names → ⊥) → NamesIn rest pairs → NamesIn bytes pairs
  complete : {bytes : List ℕ} (pairs others : List GlobalNameValue) (s : SectionValue) (names rest : List ℕ) → Subsection bytes s rest → AreModuleNames s names → NumberedPairs names pairs true → NamesIn rest others → NamesIn bytes (pairs ++ others)
  faulty : {bytes : List ℕ} {pairs : List GlobalNameValue} (s : SectionValue) (names rest : List ℕ) → Subsection bytes s rest → AreModuleNames s names → NumberedPairs names pairs false → NamesIn bytes pairs

-- the pairs that one section gives: those of a section of names, and none of any other
pub data SectionNames : SectionValue → List GlobalNameValue → Type 0 where
  name_section : {s : SectionValue} {pairs : List GlobalNameValue} (rest : List ℕ) → IsCustomSection component_name_text s rest → NamesIn rest pairs → SectionNames s pairs
  other_section : {s : SectionValue} → ((rest : List ℕ) → IsCustomSection component_name_text s rest → ⊥) → SectionNames s []

-- the pairs of all sections, in order
abbrev pub AllNames : List FrameValue → List GlobalNameValue → Type 0
AllNames [] pairs = pairs ≡ []
AllNames (f ∷ fs) pairs = (these others : List GlobalNameValue) × (pairs ≡ these ++ others) × SectionNames f.section these × AllNames fs others

-- the last name that pairs give an index
abbrev pub last_name : List GlobalNameValue → ℕ → Option (List ℕ)
last_name pairs index = last_or None (map (λ (p : GlobalNameValue). p.1) (filter (λ (p : GlobalNameValue). nat_eq index p.0) pairs))
