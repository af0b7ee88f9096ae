-- What a refusal of a component's file says of its bytes.
use Rattle.std.specs.Prelude.{◌≡◌, ◌≢◌, ℕ, ◌+◌, ◌<◌, ◌⊎◌, List, [], ◌++◌, length, Option, Some, None}
use Rattle.wc_read.specs.Formats.{HasNoPrefix}
use Rattle.wc_read.specs.Sections.{SectionValue, SpellsSection, component_header}
use Rattle.wc_read.specs.declared.fault.ReadFault.{ReadFault}
use Rattle.wc_read.specs.declared.fault.ReadFault.TheVariants.{NotWasm, Truncated, BadNumber, UnknownSection}
use Rattle.wc_component_file.specs.Headers.{BeginsAsComponent, HasHeader}
use Rattle.wc_component_file.specs.Frames.{FrameValue, SpellFramesAt, AreKnown, last_id}
use Rattle.wc_component_file.specs.declared.fault.FileFault.{FileFault}
use Rattle.wc_component_file.specs.declared.fault.FileFault.TheVariants.{Memory, Version, Read}
use Rattle.wc_component_file.specs.declared.fault.FileRefusal.{FileRefusal}

-- whole sections of known ids are between the header and these bytes
pub record AreFramesTo (bytes : List ℕ) (fs : List FrameValue) (rest : List ℕ) : Type 0 where
  pub text : List ℕ
  pub cut : bytes ≡ component_header ++ (text ++ rest)
  pub has_frames : SpellFramesAt (length component_header) text fs
  pub are_known : AreKnown fs

-- no section is at the front of the bytes, or one whose id is not known
abbrev pub IsBadFrame : ReadFault → List ℕ → Type 0
IsBadFrame fault bytes =
    ((fault ≡ UnknownSection) × (text rest : List ℕ) × (s : SectionValue) × (bytes ≡ text ++ rest) × SpellsSection text s × (last_id < s.id))
    ⊎ (((fault ≡ Truncated) ⊎ (fault ≡ BadNumber)) × HasNoPrefix SpellsSection bytes)

-- the section that begins at this byte of the file has the fault
pub record StopsAt (bytes : List ℕ) (fault : ReadFault) (at : ℕ) : Type 0 where
  pub fs : List FrameValue
  pub rest : List ℕ
  pub before : AreFramesTo bytes fs rest
  pub is_left : rest ≢ []
  pub is_at : at + length rest ≡ length bytes
  pub is_bad : IsBadFrame fault rest

abbrev pub IsFaultAt : List ℕ → FileFault → Option ℕ → Type 0
IsFaultAt bytes Memory byte = byte ≡ None
IsFaultAt bytes (Version version) byte = (version ≢ 13) × ((rest : List ℕ) × HasHeader bytes version rest) × (byte ≡ None)
IsFaultAt bytes (Read fault) None = (fault ≡ NotWasm) × ¬ (BeginsAsComponent bytes)
IsFaultAt bytes (Read fault) (Some at) = StopsAt bytes fault at

-- a refusal says what is wrong with the bytes, and where
abbrev pub IsFileRefusal : List ℕ → FileRefusal → Type 0
IsFileRefusal bytes r = IsFaultAt bytes r.fault r.byte
