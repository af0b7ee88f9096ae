-- What a command makes of its input, and the causes of its faults.
use Rattle.std.specs.Prelude.{◌≡◌, ◌≢◌, ◌↔◌, ℕ, List, [], Option, Some, None}
use Rattle.std.specs.Option.{option_map}
use Rattle.wc_read.specs.Place.{IsPlaced}
use Rattle.wc_read.specs.declared.place.ReadPlace.{ReadPlace}
use Rattle.wc_texts.specs.declared.refused.Refused.{Refused}
use Rattle.wc_gc.specs.TrimPlace.{IsExplained}
use Rattle.wc_gc.specs.declared.trim_place.TrimPlace.{TrimPlace}
use Rattle.wc_gc.specs.declared.trim_place.TrimPlace.TheVariants.{Bytes}
use Rattle.wc_read.specs.Sections.{IsComponent}
use Rattle.wc_read.specs.Modules.{ModuleValue, SpellsModule}
use Rattle.wc_read.specs.declared.fault.ReadFault.TheVariants.{Memory as read_memory, Component}
use Rattle.wc_dedupe.specs.Renaming.{RenameView}
use Rattle.wc_dedupe.specs.Dedupe.{IsDeduped, IsDedupeCause, IsDedupePlace}
use Rattle.wc_dedupe.specs.declared.fault.DedupeFault.TheVariants.{Memory as dedupe_memory}
use Rattle.wc_gc.specs.LiveItems.{TrimInput, trim_input_for_names}
use Rattle.wc_gc.specs.Parts.{SettingsView}
use Rattle.wc_gc.specs.TrimmedText.{IsTrimmed}
use Rattle.wc_gc.specs.Trim.{IsTrimFault}
use Rattle.wc_gc.specs.declared.fault.GcFault.TheVariants.{Memory as gc_memory}
use Rattle.wctrim_command.specs.Command.{CommandView, dedupe, scan, trim}
use Rattle.wctrim_command.specs.Lines.{lines_of}
use Rattle.wctrim_command.specs.Scan.{scan_lines}
use Rattle.wctrim_command.specs.declared.fault.ToolFault.{ToolFault}
use Rattle.wctrim_command.specs.declared.fault.ToolFault.TheVariants.{Memory, Dedupe, Trim, Read, Output}

-- the cause of a fault of trimming
abbrev pub IsTrimsCause : SettingsView → TrimInput → ToolFault → Type 0
IsTrimsCause s w Memory = Unit {0}
IsTrimsCause s w (Trim f) = (f ≢ gc_memory) × IsTrimFault s w f
IsTrimsCause s w f = ⊥

-- how a trim's adapter is trimmed
abbrev pub settings_of : Option (List ℕ) → ℕ → SettingsView
settings_of realloc page_size_log2 = record { realloc = realloc; page_size_log2 = page_size_log2 }

-- the command makes these lines of the input, and these bytes, where it makes any
abbrev pub Runs : CommandView → List ℕ → List ℕ → Option (List ℕ) → Type 0
Runs (dedupe source target) input lines answer =
    (bytes : List ℕ) × (renames : List RenameView) × IsDeduped input bytes renames × (lines ≡ lines_of renames) × (answer ≡ Some bytes)
Runs (scan source) input lines answer =
    (m : ModuleValue) × SpellsModule input m × (lines ≡ scan_lines m) × (answer ≡ None)
Runs (trim source target realloc page_size_log2 exports) input lines answer =
    (bytes : List ℕ) × IsTrimmed (settings_of realloc page_size_log2) (trim_input_for_names input exports) bytes × (lines ≡ []) × (answer ≡ Some bytes)

-- the cause of a fault. Memory and Output may come with any input: that a put failed is said of the sink
abbrev pub IsCommandCause : CommandView → List ℕ → ToolFault → Type 0
IsCommandCause c input Memory = Unit {0}
IsCommandCause (dedupe source target) input (Dedupe f) = (f ≢ dedupe_memory) × IsDedupeCause input f
IsCommandCause (dedupe source target) input (Read f) = ⊥
IsCommandCause (dedupe source target) input (Trim f) = ⊥
IsCommandCause (scan source) input (Dedupe f) = ⊥
IsCommandCause (scan source) input (Trim f) = ⊥
IsCommandCause (scan source) input (Read f) = (f ≢ read_memory) × ((f ≡ Component) ↔ IsComponent input) × ((m : ModuleValue) → ¬ (SpellsModule input m))
IsCommandCause (trim source target realloc page_size_log2 exports) input (Trim f) = IsTrimsCause (settings_of realloc page_size_log2) (trim_input_for_names input exports) (Trim f)
IsCommandCause (trim source target realloc page_size_log2 exports) input (Dedupe f) = ⊥
IsCommandCause (trim source target realloc page_size_log2 exports) input (Read f) = ⊥
IsCommandCause c input Output = Unit {0}

-- a place in the bytes of the input
abbrev pub IsBytesPlace : (Option ReadPlace → Type 0) → Option TrimPlace → Type 0
IsBytesPlace P place = (p : Option ReadPlace) × P p × (place ≡ option_map Bytes p)

-- what a fault of a trim is about
abbrev pub IsTrimsPlace : TrimInput → ToolFault → Option TrimPlace → Type 0
IsTrimsPlace w (Trim f) place = IsExplained w f place
IsTrimsPlace w f place = place ≡ None

-- what a fault is about: where reading the input stopped, or of a trim what `wc_gc` has; the others are about nothing
abbrev pub IsCommandPlace : CommandView → List ℕ → ToolFault → Option TrimPlace → Type 0
IsCommandPlace (dedupe source target) input (Dedupe f) place = IsBytesPlace (IsDedupePlace input f) place
IsCommandPlace (scan source) input (Read f) place = IsBytesPlace (IsPlaced input f) place
IsCommandPlace (trim source target realloc page_size_log2 exports) input f place = IsTrimsPlace (trim_input_for_names input exports) f place
IsCommandPlace c input f place = place ≡ None

-- why a command is refused, and what that is about
abbrev pub CommandRefusal : Type 0
CommandRefusal = Refused ToolFault TrimPlace

pub record IsRefusalOf (c : CommandView) (input : List ℕ) (x : CommandRefusal) : Type 0 where
  pub cause : IsCommandCause c input x.fault
  pub place : IsCommandPlace c input x.fault x.place
