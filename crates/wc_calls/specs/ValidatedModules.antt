-- What the call that answers what is recorded of one module of a component answers: of the main module; or of the adapter or
-- the library of a name, where functions are required of it.
use Rattle.std.specs.Prelude.{◌≡◌, ◌⊎◌, ℕ, List, MatchOption, Option, Some, None, string_bytes}
use Rattle.std.specs.Map.{lookup}
use Rattle.std.specs.Str.{IsUtf8, bytes_eq}
use Rattle.wc_read.specs.Types.{FuncTypeValue}
use Rattle.wc_adapters.specs.Adapters.{AdapterView}
use Rattle.wc_encoder.specs.EncoderParts.{EncoderView}
use Rattle.wc_record.specs.Texts.{module_text}
use Rattle.wc_validate.specs.Refused.{HasNoPlace}
use Rattle.wc_validate.specs.Validate.{IsRecordOf, ModuleRecord, ValidationInput, adapter_input, main_input}
use Rattle.wc_validate.specs.declared.fault.ValidateFault.{ValidateFault}
use Rattle.wc_world.specs.Causes.{IsRefused}
use Rattle.wc_world.specs.Places.{IsInAdapter, IsValidationPlace}
use Rattle.wc_world.specs.declared.fault.WorldFault.{WorldFault}
use Rattle.wc_world.specs.declared.fault.WorldFault.TheVariants.{Main, Adapter}
use Rattle.wc_world.specs.declared.places.WorldPlace.{WorldPlace}
use Rattle.wc_calls.specs.Encoders.{IsEncoderOf}
use Rattle.wc_calls.specs.FaultAnswers.{IsFaultAnswered}
use Rattle.wc_calls.specs.MessageFault.{IsNoEncoderCause}
use Rattle.wc_calls.specs.Places.{IsPlaceOf, IsWorldPlaceText, world_place_text}
use Rattle.wc_calls.specs.RequiredFunctions.{AreRequired, IsNotRequired}
use Rattle.wc_calls.specs.declared.answers.Answer.{Answer}
use Rattle.wc_calls.specs.declared.message_fault.MessageFault.{MessageFault}
use Rattle.wc_calls.specs.declared.message_fault.MessageFault.TheVariants.{World}

-- what an adapter or a library is validated for, where these functions are required of it
abbrev pub input_for : EncoderView → AdapterView → List (List ℕ × FuncTypeValue) → ValidationInput
input_for e a required = adapter_input e a.library_info a.required_exports required

-- a fact of the validation of the adapter or the library that an encoder has under a name, where the functions that the
-- bytes are, are required of it
abbrev pub IsAsked : EncoderView → List ℕ → List ℕ → (ValidationInput → List ℕ → Type 0) → Type 0
IsAsked e name required P =
    (fs : List (List ℕ × FuncTypeValue)) × AreRequired required fs × (a : AdapterView) × (lookup (bytes_eq name) e.adapters ≡ Some a) × P (input_for e a fs) a.wasm

-- the text is what is recorded of a module, as JSON
abbrev pub IsRecordIn : List ℕ → ValidationInput → List ℕ → Type 0
IsRecordIn text j bytes = (r : ModuleRecord) × IsRecordOf j bytes r × (text ≡ module_text r)

-- the same of the main module; or of the module of a name
abbrev pub IsRecordText : EncoderView → Option (List ℕ) → List ℕ → List ℕ → Type 0
IsRecordText e None required text = IsRecordIn text (main_input e e.module_import_map) e.module_bytes
IsRecordText e (Some name) required text = IsAsked e name required (IsRecordIn text)

-- no module is asked for: there is a name, and it is no text, or the encoder has none under it; or the bytes are no
-- functions
abbrev pub IsNoneAsked : EncoderView → Option (List ℕ) → List ℕ → Type 0
IsNoneAsked e None required = ⊥
IsNoneAsked e (Some name) required = (¬ IsUtf8 name) ⊎ (lookup (bytes_eq name) e.adapters ≡ None) ⊎ IsNotRequired required

-- why the module is refused, never that an allocation failed
abbrev pub IsAskedRefused : EncoderView → Option (List ℕ) → List ℕ → WorldFault → Type 0
IsAskedRefused e None required (Main f) = IsRefused (main_input e e.module_import_map) e.module_bytes f
IsAskedRefused e (Some name) required (Adapter n f) = (string_bytes n ≡ name) × IsAsked e name required (λ j bytes. IsRefused j bytes f)
IsAskedRefused e name required f = ⊥

-- what a fault of a module is about: of the adapter or the library of a name; and as a text
abbrev pub IsPlaceIn : List ℕ → ValidateFault → Option WorldPlace → ValidationInput → List ℕ → Type 0
IsPlaceIn name f place j bytes = MatchOption place (HasNoPlace f) (λ (p : WorldPlace). IsInAdapter name p × IsValidationPlace j bytes f p.place)

abbrev pub IsAskedPlaceText : EncoderView → List ℕ → WorldFault → List ℕ → Type 0
IsAskedPlaceText e required (Adapter n f) text =
    (p : Option WorldPlace) × IsAsked e (string_bytes n) required (IsPlaceIn (string_bytes n) f p) × (text ≡ world_place_text (Adapter n f) p)
IsAskedPlaceText e required f text = IsWorldPlaceText e f text

-- the text is what is recorded of the module that is asked for, of the encoder that the message and the modules are; and
-- none is asked for
abbrev pub IsRecordAnswer : List ℕ → List ℕ → Option (List ℕ) → List ℕ → List ℕ → Type 0
IsRecordAnswer message modules name required text = (e : EncoderView) × IsEncoderOf message modules e × IsRecordText e name required text

abbrev pub IsNoneAskedOf : List ℕ → List ℕ → Option (List ℕ) → List ℕ → Type 0
IsNoneAskedOf message modules name required = (e : EncoderView) × IsEncoderOf message modules e × IsNoneAsked e name required

-- why there is no record, and what that is about: the module, or else the message
abbrev pub IsRecordCause : List ℕ → List ℕ → Option (List ℕ) → List ℕ → MessageFault → Type 0
IsRecordCause message modules name required (World f) = (e : EncoderView) × IsEncoderOf message modules e × IsAskedRefused e name required f
IsRecordCause message modules name required f = IsNoEncoderCause message modules f

abbrev pub IsRecordPlaceOf : List ℕ → List ℕ → List ℕ → MessageFault → List ℕ → Type 0
IsRecordPlaceOf message modules required (World f) text = (e : EncoderView) × IsEncoderOf message modules e × IsAskedPlaceText e required f text
IsRecordPlaceOf message modules required f text = IsPlaceOf message modules f text

abbrev pub IsRecordFaultOf : List ℕ → List ℕ → Option (List ℕ) → List ℕ → Answer → List ℕ → List ℕ → Type 0
IsRecordFaultOf message modules name required =
    IsFaultAnswered (IsRecordCause message modules name required) (IsRecordPlaceOf message modules required)
