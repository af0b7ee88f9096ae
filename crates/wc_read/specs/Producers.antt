-- The producers section of the tool conventions: what made a module.
use Rattle.std.specs.Prelude.{◌≡◌, ℕ, List, [], ◌∷◌, ◌++◌, Option, Some, None}
use Rattle.wc_read.specs.Formats.{Format, SpellsName, SpellsVector}
use Rattle.wc_read.specs.Sections.{SectionValue}
use Rattle.wc_read.specs.Custom.{IsCustomSection}

-- `producers`
abbrev pub producers_text : List ℕ
producers_text = 0x70 ∷ 0x72 ∷ 0x6f ∷ 0x64 ∷ 0x75 ∷ 0x63 ∷ 0x65 ∷ 0x72 ∷ 0x73 ∷ []

-- a language or tool, and its version
pub record ProducerValue : Type 0 where
  pub name : List ℕ
  pub version : List ℕ

-- a field's name and its values
pub record FieldValue : Type 0 where
  pub name : List ℕ
  pub producers : List ProducerValue

abbrev pub SpellsProducer : Format ProducerValue
SpellsProducer bytes p = (name version : List ℕ) × (bytes ≡ name ++ version) × SpellsName name p.name × SpellsName version p.version

abbrev pub SpellsField : Format FieldValue
SpellsField bytes f = (name producers : List ℕ) × (bytes ≡ name ++ producers) × SpellsName name f.name × SpellsVector SpellsProducer producers f.producers

-- the bytes after the name of a producers section, all of them
abbrev pub IsProducers : List ℕ → Type 0
IsProducers bytes = (fields : List FieldValue) × SpellsVector SpellsField bytes fields

-- a section that reads as a producers section with these bytes after its name
abbrev pub ReadsProducers : SectionValue → List ℕ → Type 0
ReadsProducers s bytes = IsCustomSection producers_text s bytes × IsProducers bytes

abbrev pub NoneReads : List SectionValue → Type 0
NoneReads [] = Unit {0}
NoneReads (s ∷ sections) = ((bytes : List ℕ) → ReadsProducers s bytes → ⊥) × NoneReads sections

-- a section that reads as a producers section, and none after it
pub record ReadsLast (sections : List SectionValue) (bytes : List ℕ) : Type 0 where
  pub front : List SectionValue
  pub section : SectionValue
  pub back : List SectionValue
  pub cut : sections ≡ front ++ section ∷ back
  pub reads : ReadsProducers section bytes
  pub none_after : NoneReads back

-- the bytes of the last section that reads as a producers section
abbrev pub LastProducers : List SectionValue → Option (List ℕ) → Type 0
LastProducers sections None = NoneReads sections
LastProducers sections (Some bytes) = ReadsLast sections bytes
