-- What the reading of one section gives.
use Rattle.std.specs.Prelude.{◌≡◌, ℕ, ◌-◌, ◌≤◌, List, length, Some, Result, Ok, Err}
use Rattle.wc_read.specs.Reading.Framing.{section_at}
use Rattle.wc_read.specs.declared.fault.ReadFault.{ReadFault}
use Rattle.wc_component_file.specs.Frames.{frame_value, last_id}
use Rattle.wc_component_file.specs.Refusals.{IsBadFrame}
use Rattle.wc_component_file.specs.declared.fault.FileFault.TheVariants.{Read}
use Rattle.wc_component_file.specs.declared.fault.FileRefusal.{FileRefusal}
use Rattle.wc_component_file.specs.declared.frames.Frame.{Frame}

-- a section at the front of the bytes that were left of a file of this size, of which these are left now; or what is
-- wrong with it, and where it begins
abbrev pub GivesFrame : ℕ → Result Frame FileRefusal → List ℕ → List ℕ → Type 0
GivesFrame size (Ok f) old new =
    (section_at old ≡ Some ((frame_value f).section, new)) × (f.section.id ≤ last_id) × (f.offset ≡ size - length new - length f.section.content.now)
GivesFrame size (Err r) old new = (fault : ReadFault) × (r.fault ≡ Read fault) × (r.byte ≡ Some (size - length old)) × IsBadFrame fault old
