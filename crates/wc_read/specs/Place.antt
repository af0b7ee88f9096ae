-- Where the bytes of a module that is refused stop to be right, and the text of such a place.
use Rattle.std.specs.Prelude.{◌≡◌, ◌≢◌, ℕ, ◌+◌, ◌≤◌, List, ◌∷◌, ◌++◌, length, All, Bool, true, false, ◌⊎◌, Option, Some, None, IfSome, MatchOption, Result, Ok, Err, codes, decimal, ◌==◌, if◌then◌else◌}
use Rattle.wc_texts.specs.declared.refused.Refused.{Refused}
use Rattle.wc_read.specs.Sections.{SectionValue, SpellsFrames, SpellsSection}
use Rattle.wc_read.specs.SectionContents.{SectionContentsValue, HaveSectionContents}
use Rattle.wc_read.specs.Causes.{is_cause}
use Rattle.wc_read.specs.declared.fault.ReadFault.{ReadFault}
use Rattle.wc_read.specs.declared.fault.ReadFault.TheVariants.{Memory}
use Rattle.wc_read.specs.declared.place.ReadPlace.{ReadPlace}

-- the section comes after whole sections, and its content begins at this offset and ends with it
pub record IsContentAt (bytes : List ℕ) (s : SectionValue) (at : ℕ) : Type 0 where
  pub front : List ℕ
  pub text : List ℕ
  pub back : List ℕ
  pub before : List SectionValue
  pub cut : bytes ≡ front ++ (text ++ back)
  pub has_before : SpellsFrames front before
  pub has_section : SpellsSection text s
  pub ends : at + length s.content ≡ length front + length text

-- the offset is in the content of a section with this id, or at its end
pub record IsInSection (bytes : List ℕ) (id offset : ℕ) : Type 0 where
  pub content : List ℕ
  pub begin : ℕ
  pub has_content : IsContentAt bytes (record { id = id; content = content }) begin
  pub from : begin ≤ offset
  pub to : offset ≤ begin + length content

-- a place is within the bytes, and in the content of a section of the id that it names
pub record IsPlaceIn (bytes : List ℕ) (place : ReadPlace) : Type 0 where
  pub within : place.offset ≤ length bytes
  pub in_section : IfSome place.section (λ id. IsInSection bytes id place.offset)

-- a place is the start of the content of the first of the sections that passes a test
pub record HasFirstCause (bytes : List ℕ) (sections : List SectionValue) (causes : ℕ → Bool) (place : ReadPlace) : Type 0 where
  pub front : List SectionValue
  pub section : SectionValue
  pub back : List SectionValue
  pub cut : sections ≡ front ++ (section ∷ back)
  pub first : All (λ s. causes s.id ≡ false) front
  pub causes_it : causes section.id ≡ true
  pub named : place.section ≡ Some section.id
  pub content : IsContentAt bytes section place.offset
  pub after_front : content.before ≡ front

-- where each item of the sections is right by itself, a fault has the place of the first section that it is about, if it
-- is about one
abbrev pub IsCausePlace : List ℕ → ReadFault → ReadPlace → Type 0
IsCausePlace bytes fault place =
    (sections : List SectionValue) (parts : SectionContentsValue) → SpellsFrames bytes sections → HaveSectionContents sections parts
    → All (λ s. is_cause parts fault s.id ≡ false) sections ⊎ HasFirstCause bytes sections (is_cause parts fault) place

-- a fault has a place in the bytes, that of what it is about, but where an allocation failed
abbrev pub IsPlaced : List ℕ → ReadFault → Option ReadPlace → Type 0
IsPlaced bytes fault place = MatchOption place (fault ≡ Memory) (λ p. (fault ≢ Memory) × IsPlaceIn bytes p × IsCausePlace bytes fault p)

-- what is refused is refused with this fault
abbrev pub IsRefusedWith : {X P : Type 0} → Result X (Refused ReadFault P) → ReadFault → Type 0
IsRefusedWith (Ok x) fault = ⊥
IsRefusedWith (Err r) fault = r.fault ≡ fault

-- the name of a section (2.5 and 5.5)
abbrev pub section_name : ℕ → List ℕ
section_name id =
    if id == 0 then codes "custom"
    else if id == 1 then codes "type"
    else if id == 2 then codes "import"
    else if id == 3 then codes "function"
    else if id == 4 then codes "table"
    else if id == 5 then codes "memory"
    else if id == 6 then codes "global"
    else if id == 7 then codes "export"
    else if id == 8 then codes "start"
    else if id == 9 then codes "element"
    else if id == 10 then codes "code"
    else if id == 11 then codes "data"
    else if id == 12 then codes "data count"
    else codes "unknown"

-- `byte 57, in the import section`
abbrev pub in_section_text : Option ℕ → List ℕ
in_section_text None = codes ""
in_section_text (Some id) = codes ", in the " ++ (section_name id ++ codes " section")

abbrev pub read_place_text : ReadPlace → List ℕ
read_place_text p = codes "byte " ++ (decimal p.offset ++ in_section_text p.section)
