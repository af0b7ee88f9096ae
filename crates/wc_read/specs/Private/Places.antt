-- How far the sections of a module were read.
use Rattle.std.specs.Prelude.{◌≡◌, ℕ, List, ◌++◌, All, Bool, false, Option, MatchOption}
use Rattle.std.specs.Option.{option_map}
use Rattle.wc_read.specs.Place.{HasFirstCause, IsCausePlace}
use Rattle.wc_read.specs.Reading.Contents.{section_contents_in, section_contents_value}
use Rattle.wc_read.specs.Sections.{SectionValue, SpellsFrames, SpellsSection}
use Rattle.wc_read.specs.declared.fault.ReadFault.{ReadFault}
use Rattle.wc_read.specs.declared.place.ReadPlace.{ReadPlace}
use Rattle.wc_read.specs.declared.section_contents.SectionContents.{SectionContents}

-- the header and whole sections were read, and these bytes are left
pub record AreSectionsRead (bytes rest : List ℕ) : Type 0 where
  pub front : List ℕ
  pub before : List SectionValue
  pub cut : bytes ≡ front ++ rest
  pub has_before : SpellsFrames front before

-- this section was read as the last one, and these bytes are left
pub record IsLastRead (bytes rest : List ℕ) (s : SectionValue) : Type 0 where
  pub front : List ℕ
  pub text : List ℕ
  pub before : List SectionValue
  pub cut : bytes ≡ front ++ (text ++ rest)
  pub has_before : SpellsFrames front before
  pub has_section : SpellsSection text s

-- the contents of the sections that bytes spell, where all of them are read
abbrev pub AreContentsOf : List ℕ → Option SectionContents → Type 0
AreContentsOf bytes found = (sections : List SectionValue) → SpellsFrames bytes sections → section_contents_in sections ≡ option_map section_contents_value found

-- the place of the first section of the bytes that passes a test, none where none does
abbrev pub IsFirstCause : List ℕ → (ℕ → Bool) → Option ReadPlace → Type 0
IsFirstCause bytes causes found =
    (sections : List SectionValue) → SpellsFrames bytes sections
    → MatchOption found (All (λ s. causes s.id ≡ false) sections) (HasFirstCause bytes sections causes)

-- the place of what a fault is about; none where it has none
abbrev pub HasCausePlace : List ℕ → ReadFault → Option ReadPlace → Type 0
HasCausePlace bytes fault found = MatchOption found ((p : ReadPlace) → IsCausePlace bytes fault p) (IsCausePlace bytes fault)
