-- What dedupe makes of a module's bytes, and the causes of its faults.
use Rattle.std.specs.Prelude.{◌≡◌, ◌≢◌, ℕ, List, [], ◌⊎◌, All, Any, Option, None, Some}
use Rattle.wc_read.specs.Place.{IsPlaceIn}
use Rattle.wc_read.specs.Sections.{IsComponent}
use Rattle.wc_read.specs.declared.fault.ReadFault.TheVariants.{Memory as read_memory, Component}
use Rattle.wc_read.specs.declared.place.ReadPlace.{ReadPlace}
use Rattle.wc_dedupe.specs.Renaming.{RenameView, Renamed, originals, renames_of}
use Rattle.wc_dedupe.specs.ParsedSections.{ParsedSectionValue, SpellsParsedSections, imports_of, KeepAllButNames, parsed_module_text, Fits, IsTooLarge}
use Rattle.wc_dedupe.specs.declared.fault.DedupeFault.{DedupeFault}
use Rattle.wc_dedupe.specs.declared.fault.DedupeFault.TheVariants.{Memory, Read, TooLarge}

-- the parts of a module, and the same parts with imports renamed so that no two share a module and a name
pub record IsRenamedModule (bytes : List ℕ) (renamed : List ParsedSectionValue) (renames : List RenameView) : Type 0 where
  pub parts : List ParsedSectionValue
  pub spelled : SpellsParsedSections bytes parts
  pub kept : KeepAllButNames parts renamed
  pub named : Renamed [] (originals (imports_of parts)) (originals (imports_of renamed))
  pub listed : renames ≡ renames_of (originals (imports_of parts)) (originals (imports_of renamed))

-- what bytes are deduped to: themselves where they are a component's or no import repeats, else the text of the renamed
-- module, whose sections all have contents of fewer than 2^32 bytes
abbrev pub IsDeduped : List ℕ → List ℕ → List RenameView → Type 0
IsDeduped bytes out renames =
    (IsComponent bytes × (out ≡ bytes) × (renames ≡ []))
    ⊎ ((renamed : List ParsedSectionValue) × IsRenamedModule bytes renamed renames × (((renames ≡ []) × (out ≡ bytes)) ⊎ ((renames ≢ []) × (out ≡ parsed_module_text renamed) × All Fits renamed)))

-- the cause of a fault: the bytes are no component's, and spell no sections or have an import section that spells no
-- imports; or a section of the renamed module has a content of 2^32 bytes or more
abbrev pub IsDedupeCause : List ℕ → DedupeFault → Type 0
IsDedupeCause bytes Memory = Unit {0}
IsDedupeCause bytes (Read f) = (f ≢ read_memory) × (f ≢ Component) × (¬ (IsComponent bytes)) × ((parts : List ParsedSectionValue) → ¬ (SpellsParsedSections bytes parts))
IsDedupeCause bytes TooLarge = (renamed : List ParsedSectionValue) × (renames : List RenameView) × IsRenamedModule bytes renamed renames × (renames ≢ []) × Any IsTooLarge renamed

-- the place of a fault: of bytes that can't be read, in them
abbrev pub IsDedupePlace : List ℕ → DedupeFault → Option ReadPlace → Type 0
IsDedupePlace bytes (Read f) place = (p : ReadPlace) × (place ≡ Some p) × IsPlaceIn bytes p
IsDedupePlace bytes Memory place = place ≡ None
IsDedupePlace bytes TooLarge place = place ≡ None

-- the renames of a map, none where there is no map
abbrev pub renames_in : Option (List RenameView) → List RenameView
renames_in None = []
renames_in (Some renames) = renames
