-- What trimming leaves of an adapter's imports and exports, as they are recorded; and why the trimmed adapter may still
-- be refused.
use Rattle.std.specs.Prelude.{◌≡◌, ◌≢◌, ℕ, List, None}
use Rattle.wc_read.specs.Modules.{ModuleValue, SpellsModule}
use Rattle.wc_write.specs.Values.{AreBytes}
use Rattle.wc_encoder.specs.EncoderParts.{EncoderView}
use Rattle.wc_gc.specs.LiveItems.{TrimInput}
use Rattle.wc_gc.specs.Parts.{SettingsView}
use Rattle.wc_gc.specs.RestrictionLaws.{IsRestriction}
use Rattle.wc_gc.specs.TrimmedText.{IsTrimmed}
use Rattle.wc_validate.specs.Restriction.{AreNeeded, HasCollision, IsRestrictedRecord}
use Rattle.wc_validate.specs.Validate.{IsValidateCause, IsRecordOf, ValidationInput, ModuleRecord}
use Rattle.wc_validate.specs.declared.fault.ValidateFault.{ValidateFault}
use Rattle.wc_validate.specs.declared.fault.ValidateFault.TheVariants.{DuplicateImport, Memory}

-- the record of a trimmed adapter is that of the adapter, restricted: to the imports that its required exports reach,
-- but reallocs; besides these the main module's realloc is imported
pub record IsRestrictedTrim (s : SettingsView) (w : TrimInput) (text : List ℕ) (first last : ModuleRecord) : Type 0 where
  pub adapter : ModuleValue
  pub trimmed : ModuleValue
  pub spells_adapter : SpellsModule w.bytes adapter
  pub spells_trimmed : SpellsModule text trimmed
  pub restriction : IsRestriction s.realloc w.required adapter trimmed
  pub records : IsRestrictedRecord first last restriction.origins trimmed.imports

-- a trimmed adapter is refused since it imports one name of the main module twice
pub record IsCollision (text : List ℕ) (f : ValidateFault) : Type 0 where
  pub duplicate : f ≡ DuplicateImport
  pub trimmed : ModuleValue
  pub spelled : SpellsModule text trimmed
  pub collides : HasCollision trimmed

-- an adapter, no library, that is valid for a validation input, and its trimmed text; the exports that are recorded and
-- those that the validation input requires are required
pub record IsTrimFor (e : EncoderView) (j : ValidationInput) (s : SettingsView) (w : TrimInput) (text : List ℕ) (first : ModuleRecord) : Type 0 where
  pub encoder : j.encoder ≡ e
  pub no_library : j.library ≡ None
  pub no_renames : j.renames ≡ None
  pub bytes : AreBytes w.bytes
  pub original : IsRecordOf j w.bytes first
  pub trimmed : IsTrimmed s w text
  pub needed : AreNeeded j first w.required

-- the record of a trimmed adapter is that of the adapter, restricted
abbrev pub TrimmedIsRestricted : EncoderView → Type 0
TrimmedIsRestricted e =
    (j : ValidationInput) (s : SettingsView) (w : TrimInput) (text : List ℕ) (first last : ModuleRecord)
    → IsTrimFor e j s w text first → IsRecordOf j text last → IsRestrictedTrim s w text first last

-- where a trimmed adapter is refused for the same validation input, that is for a second import of one name of the main
-- module
abbrev pub RefusedAsCollision : EncoderView → Type 0
RefusedAsCollision e =
    (j : ValidationInput) (s : SettingsView) (w : TrimInput) (text : List ℕ) (first : ModuleRecord) (f : ValidateFault)
    → IsTrimFor e j s w text first → f ≢ Memory → IsValidateCause j text f → IsCollision text f
