-- What trimming answers of a module that was read, whatever bytes spell it.
use Rattle.std.proofs.Common.{◌≡◌, ℕ, List, Bool, Result, Ok, Err, ◌⊎◌, ◌<◌, inl, inr}
use Rattle.std.specs.Prelude.{IfOk, IfErr}
use Rattle.wc_read.specs.Modules.{ModuleValue, SpellsModule, module_value}
use Rattle.wc_read.specs.declared.core_module.Module.{Module}
use Rattle.wc_write.specs.Modules.{built_text}
use Rattle.wc_write.specs.Values.{AreBytes}
use Rattle.wc_read.specs.Decoded.{ItemIndex, decoded_module}
use Rattle.wc_gc.specs.Edit.{edit}
use Rattle.wc_gc.specs.EditedImage.{edited_image}
use Rattle.wc_gc.specs.Exports.{kept_exports}
use Rattle.wc_gc.specs.Laws.{AreSettings}
use Rattle.wc_gc.specs.LiveItems.{IsLivenessOf, TrimInput, order_of}
use Rattle.wc_gc.specs.Parts.{SettingsView}
use Rattle.wc_gc.specs.TrimmedText.{IsTrimmed}
use Rattle.wc_gc.specs.Trim.{IsImageText, IsLaterCause, IsLaterFault, IsTrimCause, IsTrimFault}
use Rattle.wc_gc.specs.declared.fault.GcFault.{GcFault}
use Rattle.wc_gc.specs.declared.fault.GcFault.TheVariants.{Memory}
use Rattle.wc_gc.proofs.ClosedImageLemmas.{trimmed_unfolds}
use Rattle.wc_gc.proofs.LivenessLemmas.{no_cause_of}
use Rattle.wc_gc.proofs.TrimLemmas.{same_later}
use Rattle.wc_gc.proofs.TrimmedTextLemmas.{trimmed_text_read}

-- the text of an image is read back and unfolds, where no fault has a cause
pub trimmed : (s : SettingsView) (w : TrimInput) (text : List ℕ) → AreSettings s → AreBytes w.bytes → IsImageText s w text
    → ((f : GcFault) → ¬ (IsTrimCause s w f)) → IsTrimmed s w text
trimmed s w text are all t none = record {
  image = t;
  no_cause = none;
  read = trimmed_text_read s w text are all t none;
  unfolds = trimmed_unfolds s w text are all t none;
}

-- the answer, by what is live in the module
module _ (s : SettingsView) (a : Module) (required : List (List ℕ)) (live : ItemIndex → Bool) (turns : ℕ)
    (l : IsLivenessOf required (module_value a) live turns) where
  abbrev input : List ℕ → TrimInput
  input bytes = record { bytes = bytes; required = required }

  abbrev IsCause : GcFault → Type 0
  IsCause f = IsLaterCause s (decoded_module a) (kept_exports required (module_value a).exports) live f

  no_cause_in : ((f : GcFault) → ¬ (IsCause f)) → (bytes : List ℕ) → SpellsModule bytes (module_value a) → (f : GcFault)
      → ¬ (IsTrimCause s (input bytes) f)
  unfolding decoded_module
  no_cause_in none bytes spelled f (inl c) = no_cause_of (input bytes) (module_value a) spelled l.supported l.in_range f c
  no_cause_in none bytes spelled f (inr c) = none f (same_later s (input bytes) (module_value a) spelled live l.is_live f c)

  pub trimmed_of : (text : List ℕ) → AreSettings s
      → text ≡ built_text (edited_image (edit s (decoded_module a) (kept_exports required (module_value a).exports) live))
      → ((f : GcFault) → ¬ (IsCause f))
      → (bytes : List ℕ) → AreBytes bytes → SpellsModule bytes (module_value a) → IsTrimmed s (input bytes) text
  unfolding decoded_module
  trimmed_of text are written none bytes all spelled =
      trimmed s (input bytes) text are all
      (record { value = module_value a; live = live; spelled = spelled; decides = l.is_live; written = written })
      (no_cause_in none bytes spelled)

  fault_in : (f : GcFault) → IsCause f × ((g : GcFault) → order_of g < order_of f → ¬ (IsCause g))
      → (bytes : List ℕ) → SpellsModule bytes (module_value a) → IsTrimFault s (input bytes) f
  unfolding decoded_module
  fault_in f k bytes spelled = inr (
    inr (module_value a, live, spelled, l.is_live, k.0),
    λ g h c. elim c [
      | inl b ↦ no_cause_of (input bytes) (module_value a) spelled l.supported l.in_range g b
      | inr b ↦ k.1 g h (same_later s (input bytes) (module_value a) spelled live l.is_live g b)
    ],
  )

  pub later_of : (f : GcFault) → (f ≡ Memory) ⊎ IsLaterFault s (decoded_module a) (kept_exports required (module_value a).exports) live f
      → (bytes : List ℕ) → SpellsModule bytes (module_value a) → IsTrimFault s (input bytes) f
  later_of f (inl memory) bytes spelled = inl memory
  later_of f (inr k) bytes spelled = fault_in f k bytes spelled

-- what is so for all bytes that spell a module is so for these
module _ (m : ModuleValue) (bytes : List ℕ) (spelled : SpellsModule bytes m) where
  pub answer_for : {T E : Type 0} (P : List ℕ → T → Type 0) (r : Result T E) → AreBytes bytes
      → IfOk r (λ v. (b : List ℕ) → AreBytes b → SpellsModule b m → P b v) → IfOk r (P bytes)
  answer_for P (Ok v) all h = h bytes all spelled
  answer_for P (Err f) all h = h

  pub fault_for : {T E : Type 0} (P : List ℕ → E → Type 0) (r : Result T E)
      → IfErr r (λ f. (b : List ℕ) → SpellsModule b m → P b f) → IfErr r (P bytes)
  fault_for P (Ok v) h = h
  fault_for P (Err f) h = h bytes spelled
