-- The cause of the fault of a call inside is the cause of the fault that is made of it.
use Rattle.std.proofs.Common.{◌≡◌, ◌≢◌, ◌↔◌, ℕ, List, Option, None, refl, subst, sym, ◌∙◌}
use Rattle.std.specs.Option.{option_map}
use Rattle.wc_dedupe.specs.Dedupe.{IsDedupeCause, IsDedupePlace}
use Rattle.wc_dedupe.specs.declared.fault.DedupeFault.{DedupeFault}
use Rattle.wc_dedupe.specs.declared.fault.DedupeFault.TheVariants.{Memory as dedupe_memory}
use Rattle.wc_gc.specs.LiveItems.{TrimInput}
use Rattle.wc_gc.specs.TrimPlace.{IsExplained}
use Rattle.wc_gc.specs.declared.trim_place.TrimPlace.{TrimPlace}
use Rattle.wc_gc.specs.declared.trim_place.TrimPlace.TheVariants.{Bytes}
use Rattle.wc_read.specs.Place.{IsPlaced}
use Rattle.wc_read.specs.declared.place.ReadPlace.{ReadPlace}
use Rattle.wc_read.specs.Sections.{IsComponent}
use Rattle.wc_read.specs.Modules.{ModuleValue, SpellsModule}
use Rattle.wc_read.specs.declared.fault.ReadFault.{ReadFault}
use Rattle.wc_read.specs.declared.fault.ReadFault.TheVariants.{Memory as read_memory, Component}
use Rattle.wc_gc.specs.LiveItems.{trim_input_for_names}
use Rattle.wc_texts.specs.Names.{first_occurrences}
use Rattle.wc_gc.specs.Parts.{SettingsView}
use Rattle.wc_gc.specs.Trim.{IsTrimFault}
use Rattle.wc_gc.specs.declared.fault.GcFault.{GcFault}
use Rattle.wc_gc.specs.declared.fault.GcFault.TheVariants.{Memory as gc_memory}
use Rattle.wctrim_command.specs.declared.fault.ToolFault.{ToolFault}
use Rattle.wctrim_command.specs.declared.fault.ToolFault.TheVariants.{Memory, Dedupe, Trim, Read, Output}
use Rattle.wctrim_command.specs.Command.{CommandView, dedupe, scan, trim}
use Rattle.wctrim_command.specs.Fault.{kept_place, of_dedupe, of_read, of_trim}
use Rattle.wctrim_command.specs.Execution.{CommandRefusal, IsCommandCause, IsCommandPlace, IsRefusalOf, IsTrimsCause, IsTrimsPlace, settings_of}

-- a reader's fault is the cause of a scan's
pub cause_of_read : (input : List ℕ) (f : ReadFault) → (f ≢ read_memory → (m : ModuleValue) → ¬ (SpellsModule input m)) → (f ≡ Component ↔ IsComponent input) → (source : List ℕ) → IsCommandCause (scan source) input (of_read f)
cause_of_read input read_memory refused component source = tt
cause_of_read input f refused component source =
    (λ e. cc, component, refused (λ e. cc))

-- a fault of trimming is the cause of a trim's, whose exports are counted once
pub cause_of_trim : (s : SettingsView) (input : List ℕ) (names exports : List (List ℕ)) (f : GcFault) → names ≡ first_occurrences exports → IsTrimFault s (record { bytes = input; required = names }) f → IsTrimsCause s (trim_input_for_names input exports) (of_trim f)
cause_of_trim s input names exports gc_memory same h = tt
cause_of_trim s input names exports f same h = (λ e. cc, subst (λ (ns : List (List ℕ)). IsTrimFault s (record { bytes = input; required = ns }) f) same h)

pub cause_of_command : (input source target : List ℕ) (realloc : Option (List ℕ)) (page_size_log2 : ℕ) (exports : List (List ℕ)) (e : ToolFault) → IsTrimsCause (settings_of realloc page_size_log2) (trim_input_for_names input exports) e → IsCommandCause (trim source target realloc page_size_log2 exports) input e
cause_of_command input source target realloc page_size_log2 exports Memory h = tt
cause_of_command input source target realloc page_size_log2 exports (Dedupe f) h = h
cause_of_command input source target realloc page_size_log2 exports (Trim f) h = h
cause_of_command input source target realloc page_size_log2 exports (Read f) h = h
cause_of_command input source target realloc page_size_log2 exports Output h = tt

-- a fault of a dedupe is the cause of a dedupe's
pub cause_of_dedupe : (input : List ℕ) (f : DedupeFault) → IsDedupeCause input f → (source target : List ℕ) → IsCommandCause (dedupe source target) input (of_dedupe f)
cause_of_dedupe input dedupe_memory cause source target = tt
cause_of_dedupe input f cause source target = ((λ e. cc), cause)

-- and places are those of the calls inside

pub place_of_dedupe : (input : List ℕ) (f : DedupeFault) (p : Option ReadPlace) → IsDedupePlace input f p → (source target : List ℕ)
    → IsCommandPlace (dedupe source target) input (of_dedupe f) (kept_place (of_dedupe f) (option_map Bytes p))
place_of_dedupe input dedupe_memory p h source target = refl
place_of_dedupe input f p h source target = (p, h, refl)

pub place_of_read : (input : List ℕ) (f : ReadFault) (p : Option ReadPlace) → IsPlaced input f p → (source : List ℕ)
    → IsCommandPlace (scan source) input (of_read f) (kept_place (of_read f) (option_map Bytes p))
place_of_read input read_memory p h source = refl
place_of_read input f p h source = (p, h, refl)

pub place_of_trim : (w : TrimInput) (f : GcFault) (p : Option TrimPlace) → (f ≢ gc_memory → IsExplained w f p)
    → IsTrimsPlace w (of_trim f) (kept_place (of_trim f) p)
place_of_trim w gc_memory p h = refl
place_of_trim w f p h = h (λ e. cc)

pub refused : (c : CommandView) (input : List ℕ) (x : CommandRefusal) (f : ToolFault) (p : Option TrimPlace) → x.fault ≡ f → x.place ≡ p
    → IsCommandCause c input f → IsCommandPlace c input f p → IsRefusalOf c input x
refused c input x f p same at cause placed = record {
  cause = subst (IsCommandCause c input) (sym same) cause;
  place = subst (λ g. IsCommandPlace c input g x.place) (sym same) (subst (IsCommandPlace c input f) (sym at) placed);
}

pub trim_refused : (input source target : List ℕ) (realloc : Option (List ℕ)) (page_size_log2 : ℕ) (exports : List (List ℕ)) (x : CommandRefusal)
    → IsTrimsCause (settings_of realloc page_size_log2) (trim_input_for_names input exports) x.fault
    → IsTrimsPlace (trim_input_for_names input exports) x.fault x.place → IsRefusalOf (trim source target realloc page_size_log2 exports) input x
trim_refused input source target realloc page_size_log2 exports x cause place = record {
  cause = cause_of_command input source target realloc page_size_log2 exports x.fault cause;
  place = place;
}

-- the refusal of an output that failed

output_cause : (c : CommandView) (input : List ℕ) → IsCommandCause c input Output
output_cause (dedupe source target) input = tt
output_cause (scan source) input = tt
output_cause (trim source target realloc page_size_log2 exports) input = tt

output_place : (c : CommandView) (input : List ℕ) → IsCommandPlace c input Output None
output_place (dedupe source target) input = refl
output_place (scan source) input = refl
output_place (trim source target realloc page_size_log2 exports) input = refl

pub not_put : (c : CommandView) (input : List ℕ) (x : CommandRefusal) → x.fault ≡ Output → x.place ≡ None → IsRefusalOf c input x
not_put c input x same at = refused c input x Output None same at (output_cause c input) (output_place c input)

pub dedupe_is_no_output : (f : DedupeFault) → of_dedupe f ≢ Output
dedupe_is_no_output dedupe_memory = λ e. cc
dedupe_is_no_output f = λ e. cc

pub made_of : {f g : ToolFault} → f ≡ g → g ≢ Output → f ≢ Output
made_of same other = λ e. other (sym same ∙ e)
