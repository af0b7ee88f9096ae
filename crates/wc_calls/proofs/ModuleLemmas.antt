-- One module of an encoder: what is answered for it.
use Rattle.std.proofs.Common.{◌≡◌, ◌≢◌, ℕ, List, map, Option, Some, None, String, string_bytes, ap, false, sym, subst, ◌∙◌}
use Rattle.std.proofs.lemmas.Bool.{false≢true}
use Rattle.std.specs.Map.{lookup}
use Rattle.std.specs.Option.{option_map}
use Rattle.std.specs.Str.{bytes_eq}
use Rattle.std.specs.declared.alloc.Global.{Global}
use Rattle.wc_dedupe.specs.Renaming.{RenameView}
use Rattle.wc_adapters.specs.Adapters.{LibraryView, adapter_view, library_view}
use Rattle.wc_encoder.specs.EncoderParts.{EncoderView}
use Rattle.wc_resolve.specs.Views.{key_view}
use Rattle.wc_validate.specs.Imports.Map.{required_entry, required_in}
use Rattle.wc_validate.specs.Explain.{IsPlace}
use Rattle.wc_validate.specs.Refused.{HasNoPlace, IsRefusedAt, RefusedModule}
use Rattle.wc_validate.specs.Validate.{IsValidateCause, IsRecordOf, ModuleRecord, ValidationInput, adapter_input, main_input}
use Rattle.wc_validate.specs.declared.fault.ValidateFault.{ValidateFault}
use Rattle.wc_world.specs.Trimming.{validation_input_of}
use Rattle.wc_world.specs.Causes.{IsRefused}
use Rattle.wc_world.specs.Places.{IsInAdapter, IsValidationPlace}
use Rattle.wc_world.specs.Refused.{IsAdapterRefusal, IsGivenRefusal, IsMainRefusal, IsMemoryRefusal, RefusedWorld}
use Rattle.wc_world.specs.World.{IsMainRecord}
use Rattle.wc_world.specs.declared.fault.WorldFault.TheVariants.{Main, Adapter}
use Rattle.wc_world.specs.declared.places.ModulePlace.TheVariants as place
use Rattle.wc_world.specs.declared.places.WorldPlace.{WorldPlace}
use Rattle.wc_world.proofs.RefusedLemmas.{main_placed, main_refusal_of, named_refusal, placed}
use Rattle.wc_calls.specs.Encoders.{IsEncoderOf}
use Rattle.wc_calls.specs.FaultAnswers.{IsFaultAnswered}
use Rattle.wc_calls.specs.MemoryFaults.{is_memory, validate_is_memory}
use Rattle.wc_calls.specs.MessageFault.{IsNoEncoderCause, of_world}
use Rattle.wc_calls.specs.Places.{IsPlaceOf, world_place_text}
use Rattle.wc_calls.specs.Private.EncoderAnswers.{IsPlaceFor}
use Rattle.wc_calls.specs.Private.ModuleAnswers.{IsInputAt, IsInputCause, IsInputFault, IsInputPlace, IsInputPlaceFor, IsInputRefusal, IsInputValid, IsMainCause, IsModuleFault, IsModulePlaceFor, input_of}
use Rattle.wc_calls.specs.Private.RecordAnswers.{IsInputRecord}
use Rattle.wc_calls.specs.Private.Refusals.{IsNoEncoder, IsPlacedFor, IsRefusalOf, RefusedMessage, refusal_text}
use Rattle.wc_calls.specs.Validation.{IsAdapterPlace, IsAdapterRefused, IsModuleRefused, IsModuleValid, IsUnder, IsValidationCause, IsValidationPlaceOf}
use Rattle.wc_calls.specs.declared.answers.Answer.{Answer}
use Rattle.wc_calls.specs.declared.message_fault.MessageFault.{MessageFault}
use Rattle.wc_calls.specs.declared.message_fault.MessageFault.TheVariants.{Memory, World}
use Rattle.wc_calls.specs.declared.refusals.MessagePlace.{MessagePlace}
use Rattle.wc_calls.specs.declared.refusals.MessagePlace.TheVariants as place_as
use Rattle.wc_calls.specs.declared.validation.AdapterInput.{AdapterInput}
use Rattle.wc_calls.proofs.FaultAnswerLemmas.{answered_as, answered_by, no_encoder_place}
use Rattle.wc_calls.proofs.RefusalLemmas.{refusal_answered, refusal_as, refusal_fault, world_at}

-- the refusal of an adapter or a library: an allocation failed; or its fault, and the place of that
input_memory : (g : AdapterInput) (r : RefusedWorld) (x : RefusedMessage) → IsMemoryRefusal r → IsRefusalOf of_world place_as.World r x → IsInputRefusal g x
input_memory g r x memory passed_on =
    refusal_as (IsInputCause g) of_world place_as.World r x passed_on
    (subst (λ f. IsInputCause g (of_world f) (option_map place_as.World r.place)) (sym memory.0) (ap (option_map place_as.World) memory.1))

placed_fault : (g : AdapterInput) (s : String Global) (f : ValidateFault) (p : Option WorldPlace) → string_bytes s ≡ g.name.now
    → IsValidateCause (input_of g) g.adapter.now.wasm.items f → IsInputPlace g f p → IsInputCause g (World (Adapter s f)) (option_map place_as.World p)
placed_fault g s f None named h at = (named, h, at)
placed_fault g s f (Some p) named h at = (named, h, at)

input_named : (g : AdapterInput) (f : ValidateFault) (r : RefusedWorld) (x : RefusedMessage) (s : String Global) → string_bytes s ≡ g.name.now
    → r.fault ≡ Adapter s f → IsValidateCause (input_of g) g.adapter.now.wasm.items f → IsInputPlace g f r.place → IsRefusalOf of_world place_as.World r x
    → IsInputRefusal g x
input_named g f r x s named same h at passed_on =
    refusal_as (IsInputCause g) of_world place_as.World r x passed_on
    (subst (λ z. IsInputCause g (of_world z) (option_map place_as.World r.place)) (sym same) (placed_fault g s f r.place named h at))

-- what an adapter or a library is validated for, by what the code has for it
module _ (g : AdapterInput) (library : Option LibraryView) (own : library ≡ option_map library_view g.adapter.now.library_info) where
  passed : ValidationInput
  passed = adapter_input g.encoder.now library (map key_view g.adapter.now.required_exports.keys) (map required_entry g.required.now.entries)

  passed_input : passed ≡ input_of g
  unfolding passed
  passed_input = ap (λ l. adapter_input g.encoder.now l (map key_view g.adapter.now.required_exports.keys) (map required_entry g.required.now.entries)) own

  pub input_recorded : (bytes : List ℕ) (r : ModuleRecord) → bytes ≡ g.adapter.now.wasm.items
      → IsRecordOf (adapter_input g.encoder.now library (map key_view g.adapter.now.required_exports.keys) (map required_entry g.required.now.entries)) bytes r
      → IsInputRecord g r
  unfolding passed
  input_recorded bytes r is h = subst (λ b. IsRecordOf (input_of g) b r) is (subst (λ j. IsRecordOf j bytes r) passed_input h)

  pub input_refused : (bytes : List ℕ) (m : RefusedModule) (r : RefusedWorld) (x : RefusedMessage) → bytes ≡ g.adapter.now.wasm.items
      → IsValidateCause (adapter_input g.encoder.now library (map key_view g.adapter.now.required_exports.keys) (map required_entry g.required.now.entries)) bytes m.fault
      → IsRefusedAt (IsPlace (adapter_input g.encoder.now library (map key_view g.adapter.now.required_exports.keys) (map required_entry g.required.now.entries)) bytes) m
      → IsAdapterRefusal g.name.now m r → IsRefusalOf of_world place_as.World r x → IsInputRefusal g x
  unfolding passed
  input_refused bytes m r x is cause at own passed_on =
      let h = subst (λ b. IsValidateCause (input_of g) b m.fault) is (subst (λ j. IsValidateCause j bytes m.fault) passed_input cause) in
      let there = subst (λ b. IsRefusedAt (IsPlace (input_of g) b) m) is (subst (λ j. IsRefusedAt (IsPlace j bytes) m) passed_input at) in
      let place_of = placed (IsInAdapter g.name.now) place.Validation (HasNoPlace m.fault) _ (IsValidationPlace (input_of g) g.adapter.now.wasm.items m.fault)
      (λ p here. here) m.place r.place there in
      named_refusal (λ s. Adapter s m.fault) place.Validation g.name.now m.place (λ _. IsInputRefusal g x) r (λ memory. input_memory g r x memory passed_on)
      (λ s named same found. input_named g m.fault r x s named same h (place_of found) passed_on) own

-- an adapter or a library that the encoder has under a name, for what its main module imports from it
module _ (g : AdapterInput) (main : ModuleRecord) (recorded : IsMainRecord g.encoder.now main)
    (there : lookup (bytes_eq g.name.now) g.encoder.now.adapters ≡ Some (adapter_view g.adapter.now))
    (required : map required_entry g.required.now.entries ≡ required_in main.imports g.name.now) where
  for_main : input_of g ≡ validation_input_of g.encoder.now main (g.name.now, adapter_view g.adapter.now)
  for_main = ap (λ r. adapter_input g.encoder.now (option_map library_view g.adapter.now.library_info) (map key_view g.adapter.now.required_exports.keys) r) required

  pub module_valid : IsInputValid g → IsModuleValid g.encoder.now (Some g.name.now)
  module_valid h =
      (main, recorded, adapter_view g.adapter.now, there, (h.0, subst (λ j. IsRecordOf j g.adapter.now.wasm.items h.0) for_main h.1))

  refused_under : (f : ValidateFault) (n : String Global) → string_bytes n ≡ g.name.now → IsRefused (input_of g) g.adapter.now.wasm.items f
      → IsModuleRefused g.encoder.now (Some g.name.now) (Adapter n f)
  refused_under f n named h = (
    ap Some (sym named),
    subst (λ z. IsUnder g.encoder.now z (IsAdapterRefused g.encoder.now f)) (sym named)
        (main, recorded, adapter_view g.adapter.now, there, subst (λ j. IsRefused j g.adapter.now.wasm.items f) for_main h),
  )

  placed_at : (f : ValidateFault) (p : Option WorldPlace) → IsInputPlace g f p → IsAdapterPlace g.encoder.now f p main (g.name.now, adapter_view g.adapter.now)
  placed_at f None h = h
  placed_at f (Some p) h = (h.0, subst (λ j. IsValidationPlace j g.adapter.now.wasm.items f p.place) for_main h.1)

  placed_under : (f : ValidateFault) (n : String Global) (p : Option WorldPlace) (text : List ℕ) → string_bytes n ≡ g.name.now → IsInputPlace g f p
      → text ≡ world_place_text (Adapter n f) p → IsModulePlaceFor g.encoder.now (World (Adapter n f)) text
  placed_under f n p text named h is = (
    p,
    subst (λ z. IsUnder g.encoder.now z (IsAdapterPlace g.encoder.now f p)) (sym named)
        (main, recorded, adapter_view g.adapter.now, there, placed_at f p h),
    is,
  )

  fault_under : (f : MessageFault) → IsInputFault g f → IsModuleFault g.encoder.now (Some g.name.now) f
  fault_under Memory h = tt
  fault_under (World (Adapter n f)) h = refused_under f n h.0 h.1
  fault_under f h = absurd h

  place_under : (f : MessageFault) (text : List ℕ) → IsInputFault g f → IsInputPlaceFor g f text → IsModulePlaceFor g.encoder.now f text
  place_under Memory text h at = at
  place_under (World (Adapter n f)) text h (p, placed, is) = placed_under f n p text h.0 placed is
  place_under f text h at = absurd h

  pub module_refused : (a : Answer) (old new : List ℕ) → IsFaultAnswered (IsInputFault g) (IsInputPlaceFor g) a old new
      → IsFaultAnswered (IsModuleFault g.encoder.now (Some g.name.now)) (IsModulePlaceFor g.encoder.now) a old new
  module_refused a old new h =
      answered_by (IsInputFault g) (IsModuleFault g.encoder.now (Some g.name.now)) (IsInputPlaceFor g) (IsModulePlaceFor g.encoder.now) a old new
      (λ f other is. fault_under f is) (λ f text is at. place_under f text is at) h

-- a refusal of the adapter or the library is answered

pub refused_not_memory : (j : ValidationInput) (bytes : List ℕ) (f : ValidateFault) → validate_is_memory f ≡ false → IsValidateCause j bytes f → IsRefused j bytes f
refused_not_memory j bytes f other h = ((λ same. absurd (false≢true (sym other ∙ ap validate_is_memory same))), h)

input_fault : (g : AdapterInput) (f : MessageFault) (p : Option MessagePlace) → is_memory f ≡ false → IsInputCause g f p → IsInputFault g f
input_fault g Memory p other h = tt
input_fault g (World (Adapter n f)) p other h = (h.0, refused_not_memory (input_of g) g.adapter.now.wasm.items f other h.1)
input_fault g f p other h = absurd h

input_text_at : (g : AdapterInput) (n : String Global) (f : ValidateFault) (p : Option MessagePlace) (text : List ℕ) → IsInputAt g f p
    → text ≡ refusal_text (World (Adapter n f)) p → IsInputPlaceFor g (World (Adapter n f)) text
input_text_at g n f None text at is = (None, at, is)
input_text_at g n f (Some (place_as.World p)) text at is = (Some p, at, is)
input_text_at g n f p text at is = absurd at

input_place : (g : AdapterInput) (f : MessageFault) (p : Option MessagePlace) (text : List ℕ) → IsInputCause g f p → text ≡ refusal_text f p
    → IsInputPlaceFor g f text
input_place g Memory p text h is = is ∙ ap (refusal_text Memory) h
input_place g (World (Adapter n f)) p text h is = input_text_at g n f p text h.2 is
input_place g f p text h is = absurd h

pub input_answered : (g : AdapterInput) (x : RefusedMessage) (a : Answer) (old new : List ℕ) → IsInputRefusal g x
    → IsFaultAnswered (λ f. f ≡ x.fault) (λ f text. text ≡ refusal_text x.fault x.place) a old new
    → IsFaultAnswered (IsInputFault g) (IsInputPlaceFor g) a old new
input_answered g x a old new h answered =
    answered_by (λ f. f ≡ x.fault) (IsInputFault g) (λ f text. text ≡ refusal_text x.fault x.place) (IsInputPlaceFor g) a old new
    (λ f other same. input_fault g f x.place other (subst (λ z. IsInputCause g z x.place) (sym same) h))
    (λ f text same at. subst (λ z. IsInputPlaceFor g z text) (sym same) (input_place g x.fault x.place text h at)) answered

-- the main module is refused

module _ (e : EncoderView) (renames : Option (List RenameView)) (bytes : List ℕ) (m y : RefusedModule) (r : RefusedWorld) (x : RefusedMessage)
    (same : renames ≡ e.module_import_map) (is : bytes ≡ e.module_bytes) (cause : IsValidateCause (main_input e renames) bytes m.fault)
    (at : IsRefusedAt (IsPlace (main_input e renames) bytes) m) (given : IsGivenRefusal e m y) (own : IsMainRefusal y r) (passed_on : IsRefusalOf of_world place_as.World r x) where
  pub main_cause : IsMainCause e x.fault
  main_cause =
      refusal_fault (IsMainCause e) of_world place_as.World r x passed_on
      (subst (λ f. IsMainCause e (of_world f)) (sym own.0) (main_refusal_of e renames bytes m y same is cause at given).0)

  pub main_place : IsPlacedFor e x.fault x.place
  main_place =
      refusal_as (IsPlacedFor e) of_world place_as.World r x passed_on
      (world_at e r.fault r.place (main_placed e y r (main_refusal_of e renames bytes m y same is cause at given) own))

main_fault : (e : EncoderView) (name : Option (List ℕ)) (f : MessageFault) → is_memory f ≡ false → IsMainCause e f → IsModuleFault e name f
main_fault e name Memory other h = tt
main_fault e name (World (Main f)) other h = refused_not_memory (main_input e e.module_import_map) e.module_bytes f other h
main_fault e name f other h = absurd h

main_text : (e : EncoderView) (f : MessageFault) (text : List ℕ) → IsMainCause e f → IsPlaceFor e f text → IsModulePlaceFor e f text
main_text e Memory text h at = at
main_text e (World (Main f)) text h at = at
main_text e f text h at = absurd h

pub main_refused : (e : EncoderView) (name : Option (List ℕ)) (x : RefusedMessage) (a : Answer) (old new : List ℕ) → IsMainCause e x.fault
    → IsPlacedFor e x.fault x.place → IsFaultAnswered (λ f. f ≡ x.fault) (λ f text. text ≡ refusal_text x.fault x.place) a old new
    → IsFaultAnswered (IsModuleFault e name) (IsModulePlaceFor e) a old new
main_refused e name x a old new h placed answered =
    answered_by (IsMainCause e) (IsModuleFault e name) (IsPlaceFor e) (IsModulePlaceFor e) a old new (main_fault e name) (main_text e)
    (refusal_answered e (IsMainCause e) x a old new h placed answered)

-- the same for a message

module_cause : (message modules : List ℕ) (name : Option (List ℕ)) (e : EncoderView) (f : MessageFault) → IsEncoderOf message modules e → IsModuleFault e name f
    → IsValidationCause message modules name f
module_cause message modules name e Memory encodes is = tt
module_cause message modules name e (World f) encodes is = (e, encodes, is)
module_cause message modules name e f encodes is = absurd is

module_place : (message modules : List ℕ) (name : Option (List ℕ)) (e : EncoderView) (f : MessageFault) (text : List ℕ) → IsEncoderOf message modules e
    → IsModuleFault e name f → IsModulePlaceFor e f text → IsValidationPlaceOf message modules f text
module_place message modules name e Memory text encodes is at = at
module_place message modules name e (World f) text encodes is at = (e, encodes, at)
module_place message modules name e f text encodes is at = absurd is

pub validation_refused : (message modules : List ℕ) (name : Option (List ℕ)) (e : EncoderView) (a : Answer) (old new : List ℕ) → IsEncoderOf message modules e
    → IsFaultAnswered (IsModuleFault e name) (IsModulePlaceFor e) a old new
    → IsFaultAnswered (IsValidationCause message modules name) (IsValidationPlaceOf message modules) a old new
validation_refused message modules name e a old new encodes answered =
    answered_by (IsModuleFault e name) (IsValidationCause message modules name) (IsModulePlaceFor e) (IsValidationPlaceOf message modules) a old new
    (λ f other is. module_cause message modules name e f encodes is) (λ f text is at. module_place message modules name e f text encodes is at) answered

no_encoder_cause : (message modules : List ℕ) (name : Option (List ℕ)) (f : MessageFault) → IsNoEncoderCause message modules f
    → IsValidationCause message modules name f
no_encoder_cause message modules name (World f) h = absurd h
no_encoder_cause message modules name f h = h

no_encoder_text : (message modules : List ℕ) (f : MessageFault) (text : List ℕ) → IsNoEncoderCause message modules f → IsPlaceOf message modules f text
    → IsValidationPlaceOf message modules f text
no_encoder_text message modules (World f) text h at = absurd h
no_encoder_text message modules f text h at = at

pub no_encoder_refused : (message modules : List ℕ) (name : Option (List ℕ)) (x : RefusedMessage) (a : Answer) (old new : List ℕ) → IsNoEncoder message modules x
    → IsFaultAnswered (λ g. g ≡ x.fault) (λ g text. text ≡ refusal_text x.fault x.place) a old new
    → IsFaultAnswered (IsValidationCause message modules name) (IsValidationPlaceOf message modules) a old new
no_encoder_refused message modules name x a old new (h, about) answered =
    answered_as x.fault (IsValidationCause message modules name) (λ g text. text ≡ refusal_text x.fault x.place) (IsValidationPlaceOf message modules) a old new
    (no_encoder_cause message modules name x.fault h)
    (λ text is. no_encoder_text message modules x.fault text h (no_encoder_place message modules x.fault x.place text h about is)) answered
