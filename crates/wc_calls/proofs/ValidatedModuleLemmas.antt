-- What is recorded of one module of an encoder, and why it is refused: what is answered.
use Rattle.std.proofs.Common.{◌≡◌, ℕ, List, map, Option, Some, None, Result, Ok, Err, IfOk, String, string_bytes, false, sym, subst}
use Rattle.std.specs.Map.{lookup}
use Rattle.std.specs.Str.{bytes_eq}
use Rattle.std.specs.declared.alloc.Global.{Global}
use Rattle.wc_adapters.specs.Adapters.{adapter_view}
use Rattle.wc_encoder.specs.EncoderParts.{EncoderView}
use Rattle.wc_record.specs.Texts.{module_text}
use Rattle.wc_validate.specs.Imports.Map.{required_entry}
use Rattle.wc_validate.specs.Validate.{IsRecordOf, ModuleRecord, ValidationInput, main_input}
use Rattle.wc_validate.specs.declared.fault.ValidateFault.{ValidateFault}
use Rattle.wc_world.specs.Causes.{IsRefused}
use Rattle.wc_world.specs.declared.fault.WorldFault.TheVariants.{Main, Adapter}
use Rattle.wc_world.specs.declared.places.WorldPlace.{WorldPlace}
use Rattle.wc_calls.specs.Encoders.{IsEncoderOf}
use Rattle.wc_calls.specs.FaultAnswers.{IsFaultAnswered}
use Rattle.wc_calls.specs.MemoryFaults.{is_memory}
use Rattle.wc_calls.specs.MessageFault.{IsNoEncoderCause}
use Rattle.wc_calls.specs.Places.{IsPlaceOf, world_place_text}
use Rattle.wc_calls.specs.RequiredFunctions.{AreRequired}
use Rattle.wc_calls.specs.ValidatedModules.{IsAsked, IsAskedPlaceText, IsAskedRefused, IsPlaceIn, IsRecordAnswer, IsRecordCause, IsRecordIn, IsRecordPlaceOf, IsRecordText}
use Rattle.wc_calls.specs.Private.EncoderAnswers.{IsPlaceFor}
use Rattle.wc_calls.specs.Private.ModuleAnswers.{IsInputFault, IsInputPlace, IsInputPlaceFor, IsMainCause, input_of}
use Rattle.wc_calls.specs.Private.RecordAnswers.{IsInputText, IsRecordFault, IsRecordPlaceFor}
use Rattle.wc_calls.specs.Private.Refusals.{IsNoEncoder, IsPlacedFor, RefusedMessage, refusal_text}
use Rattle.wc_calls.specs.declared.answers.Answer.{Answer}
use Rattle.wc_calls.specs.declared.message_fault.MessageFault.{MessageFault}
use Rattle.wc_calls.specs.declared.message_fault.MessageFault.TheVariants.{Memory, World}
use Rattle.wc_calls.specs.declared.validation.AdapterInput.{AdapterInput}
use Rattle.wc_calls.proofs.FaultAnswerLemmas.{answered_as, answered_by, no_encoder_place}
use Rattle.wc_calls.proofs.ModuleLemmas.{refused_not_memory}
use Rattle.wc_calls.proofs.RefusalLemmas.{refusal_answered}

-- what is recorded of a module, where its text is made
pub record_in : {V : Type 0} (j : ValidationInput) (bytes : List ℕ) (m : ModuleRecord) (r : Result V RefusedMessage) (items : V → List ℕ)
    → IsRecordOf j bytes m → IfOk r (λ v. items v ≡ module_text m) → IfOk r (λ v. IsRecordIn (items v) j bytes)
record_in j bytes m (Ok v) items recorded is = (m, recorded, is)
record_in j bytes m (Err x) items recorded is = tt

-- an adapter or a library that the encoder has under a name, for the functions that bytes are
module _ (g : AdapterInput) (required : List ℕ) (there : lookup (bytes_eq g.name.now) g.encoder.now.adapters ≡ Some (adapter_view g.adapter.now))
    (are : AreRequired required (map required_entry g.required.now.entries)) where
  asked : (P : ValidationInput → List ℕ → Type 0) → P (input_of g) g.adapter.now.wasm.items → IsAsked g.encoder.now g.name.now required P
  asked P h = (map required_entry g.required.now.entries, are, adapter_view g.adapter.now, there, h)

  pub record_asked : (text : List ℕ) → IsInputText g text → IsRecordText g.encoder.now (Some g.name.now) required text
  record_asked text h = asked (IsRecordIn text) h

  refused_asked : (f : ValidateFault) (n : String Global) → string_bytes n ≡ g.name.now → IsRefused (input_of g) g.adapter.now.wasm.items f
      → IsAskedRefused g.encoder.now (Some g.name.now) required (Adapter n f)
  refused_asked f n named h = (named, asked (λ j bytes. IsRefused j bytes f) h)

  placed_asked : (f : ValidateFault) (n : String Global) (p : Option WorldPlace) (text : List ℕ) → string_bytes n ≡ g.name.now → IsInputPlace g f p
      → text ≡ world_place_text (Adapter n f) p → IsAskedPlaceText g.encoder.now required (Adapter n f) text
  placed_asked f n p text named h is = (
    p,
    subst (λ z. IsAsked g.encoder.now z required (IsPlaceIn z f p)) (sym named) (asked (IsPlaceIn g.name.now f p) h),
    is,
  )

  fault_asked : (f : MessageFault) → IsInputFault g f → IsRecordFault g.encoder.now (Some g.name.now) required f
  fault_asked Memory h = tt
  fault_asked (World (Adapter n f)) h = refused_asked f n h.0 h.1
  fault_asked f h = absurd h

  place_asked : (f : MessageFault) (text : List ℕ) → IsInputFault g f → IsInputPlaceFor g f text → IsRecordPlaceFor g.encoder.now required f text
  place_asked Memory text h at = at
  place_asked (World (Adapter n f)) text h (p, placed, is) = placed_asked f n p text h.0 placed is
  place_asked f text h at = absurd h

  pub asked_refused : (a : Answer) (old new : List ℕ) → IsFaultAnswered (IsInputFault g) (IsInputPlaceFor g) a old new
      → IsFaultAnswered (IsRecordFault g.encoder.now (Some g.name.now) required) (IsRecordPlaceFor g.encoder.now required) a old new
  asked_refused a old new h =
      answered_by (IsInputFault g) (IsRecordFault g.encoder.now (Some g.name.now) required) (IsInputPlaceFor g) (IsRecordPlaceFor g.encoder.now required) a old new
      (λ f other is. fault_asked f is) (λ f text is at. place_asked f text is at) h

-- the main module is refused

main_fault : (e : EncoderView) (required : List ℕ) (f : MessageFault) → is_memory f ≡ false → IsMainCause e f → IsRecordFault e None required f
main_fault e required Memory other h = tt
main_fault e required (World (Main f)) other h = refused_not_memory (main_input e e.module_import_map) e.module_bytes f other h
main_fault e required f other h = absurd h

main_text : (e : EncoderView) (required : List ℕ) (f : MessageFault) (text : List ℕ) → IsMainCause e f → IsPlaceFor e f text
    → IsRecordPlaceFor e required f text
main_text e required Memory text h at = at
main_text e required (World (Main f)) text h at = at
main_text e required f text h at = absurd h

pub main_refused : (e : EncoderView) (required : List ℕ) (x : RefusedMessage) (a : Answer) (old new : List ℕ) → IsMainCause e x.fault
    → IsPlacedFor e x.fault x.place → IsFaultAnswered (λ f. f ≡ x.fault) (λ f text. text ≡ refusal_text x.fault x.place) a old new
    → IsFaultAnswered (IsRecordFault e None required) (IsRecordPlaceFor e required) a old new
main_refused e required x a old new h placed answered =
    answered_by (IsMainCause e) (IsRecordFault e None required) (IsPlaceFor e) (IsRecordPlaceFor e required) a old new (main_fault e required)
    (main_text e required) (refusal_answered e (IsMainCause e) x a old new h placed answered)

-- the same for a message

module _ (message modules : List ℕ) (name : Option (List ℕ)) (required : List ℕ) where
  pub record_of : (e : EncoderView) → IsEncoderOf message modules e → (text : List ℕ) → IsRecordText e name required text
      → IsRecordAnswer message modules name required text
  record_of e encodes text is = (e, encodes, is)

  record_cause : (e : EncoderView) (f : MessageFault) → IsEncoderOf message modules e → IsRecordFault e name required f
      → IsRecordCause message modules name required f
  record_cause e Memory encodes is = tt
  record_cause e (World f) encodes is = (e, encodes, is)
  record_cause e f encodes is = absurd is

  record_place : (e : EncoderView) (f : MessageFault) (text : List ℕ) → IsEncoderOf message modules e → IsRecordFault e name required f
      → IsRecordPlaceFor e required f text → IsRecordPlaceOf message modules required f text
  record_place e Memory text encodes is at = at
  record_place e (World f) text encodes is at = (e, encodes, at)
  record_place e f text encodes is at = absurd is

  pub record_refused : (e : EncoderView) (a : Answer) (old new : List ℕ) → IsEncoderOf message modules e
      → IsFaultAnswered (IsRecordFault e name required) (IsRecordPlaceFor e required) a old new
      → IsFaultAnswered (IsRecordCause message modules name required) (IsRecordPlaceOf message modules required) a old new
  record_refused e a old new encodes answered =
      answered_by (IsRecordFault e name required) (IsRecordCause message modules name required) (IsRecordPlaceFor e required)
      (IsRecordPlaceOf message modules required) a old new (λ f other is. record_cause e f encodes is)
      (λ f text is at. record_place e f text encodes is at) answered

  no_encoder_cause : (f : MessageFault) → IsNoEncoderCause message modules f → IsRecordCause message modules name required f
  no_encoder_cause (World f) h = absurd h
  no_encoder_cause f h = h

  no_encoder_text : (f : MessageFault) (text : List ℕ) → IsNoEncoderCause message modules f → IsPlaceOf message modules f text
      → IsRecordPlaceOf message modules required f text
  no_encoder_text (World f) text h at = absurd h
  no_encoder_text f text h at = at

  pub no_encoder_refused : (x : RefusedMessage) (a : Answer) (old new : List ℕ) → IsNoEncoder message modules x
      → IsFaultAnswered (λ g. g ≡ x.fault) (λ g text. text ≡ refusal_text x.fault x.place) a old new
      → IsFaultAnswered (IsRecordCause message modules name required) (IsRecordPlaceOf message modules required) a old new
  no_encoder_refused x a old new (h, about) answered =
      answered_as x.fault (IsRecordCause message modules name required) (λ g text. text ≡ refusal_text x.fault x.place)
      (IsRecordPlaceOf message modules required) a old new (no_encoder_cause x.fault h)
      (λ text is. no_encoder_text x.fault text h (no_encoder_place message modules x.fault x.place text h about is)) answered
