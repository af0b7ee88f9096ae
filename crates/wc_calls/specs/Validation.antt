-- What the call that validates one module of a component answers: the main module, or also the adapter or the library of a
-- name.
use Rattle.std.specs.Prelude.{◌≡◌, ◌⊎◌, ℕ, List, MatchOption, Option, Some, None, string_bytes}
use Rattle.std.specs.Map.{lookup}
use Rattle.std.specs.Str.{IsUtf8, bytes_eq}
use Rattle.wc_adapters.specs.Adapters.{AdapterView}
use Rattle.wc_encoder.specs.EncoderParts.{EncoderView}
use Rattle.wc_validate.specs.Refused.{HasNoPlace}
use Rattle.wc_validate.specs.Validate.{IsRecordOf, ModuleRecord, main_input}
use Rattle.wc_validate.specs.declared.fault.ValidateFault.{ValidateFault}
use Rattle.wc_world.specs.Trimming.{NamedAdapter, validation_input_of}
use Rattle.wc_world.specs.Causes.{IsRefused}
use Rattle.wc_world.specs.Places.{IsInAdapter, IsValidationPlace}
use Rattle.wc_world.specs.World.{IsMainRecord}
use Rattle.wc_world.specs.declared.fault.WorldFault.{WorldFault}
use Rattle.wc_world.specs.declared.fault.WorldFault.TheVariants.{Main, Adapter}
use Rattle.wc_world.specs.declared.places.WorldPlace.{WorldPlace}
use Rattle.wc_calls.specs.Encoders.{IsEncoderOf}
use Rattle.wc_calls.specs.FaultAnswers.{IsFaultAnswered}
use Rattle.wc_calls.specs.MessageFault.{IsNoEncoderCause}
use Rattle.wc_calls.specs.Places.{IsPlaceOf, IsWorldPlaceText, world_place_text}
use Rattle.wc_calls.specs.declared.answers.Answer.{Answer}
use Rattle.wc_calls.specs.declared.message_fault.MessageFault.{MessageFault}
use Rattle.wc_calls.specs.declared.message_fault.MessageFault.TheVariants.{World}

-- a fact of what is recorded of the main module, and of the adapter or the library that the encoder has under a name
abbrev pub IsUnder : EncoderView → List ℕ → (ModuleRecord → NamedAdapter → Type 0) → Type 0
IsUnder e name P = (main : ModuleRecord) × IsMainRecord e main × (a : AdapterView) × (lookup (bytes_eq name) e.adapters ≡ Some a) × P main (name, a)

-- a module is valid for what the main module imports from it
abbrev pub IsAdapterValid : EncoderView → ModuleRecord → NamedAdapter → Type 0
IsAdapterValid e main x = (r : ModuleRecord) × IsRecordOf (validation_input_of e main x) x.1.wasm r

-- the main module is valid, and that of a name, if there is a name
abbrev pub IsModuleValid : EncoderView → Option (List ℕ) → Type 0
IsModuleValid e None = (main : ModuleRecord) × IsMainRecord e main
IsModuleValid e (Some name) = IsUnder e name (IsAdapterValid e)

-- there is a name, and no module of it: it is no text, or the encoder has none under it; the main module is valid
abbrev pub IsNoModule : EncoderView → Option (List ℕ) → Type 0
IsNoModule e None = ⊥
IsNoModule e (Some name) = ((main : ModuleRecord) × IsMainRecord e main) × ((¬ IsUtf8 name) ⊎ (lookup (bytes_eq name) e.adapters ≡ None))

-- why a module is refused, never that an allocation failed: the main module; or that of the name, where the main module is
-- valid
abbrev pub IsAdapterRefused : EncoderView → ValidateFault → ModuleRecord → NamedAdapter → Type 0
IsAdapterRefused e f main x = IsRefused (validation_input_of e main x) x.1.wasm f

abbrev pub IsModuleRefused : EncoderView → Option (List ℕ) → WorldFault → Type 0
IsModuleRefused e name (Main f) = IsRefused (main_input e e.module_import_map) e.module_bytes f
IsModuleRefused e name (Adapter n f) = (name ≡ Some (string_bytes n)) × IsUnder e (string_bytes n) (IsAdapterRefused e f)
IsModuleRefused e name f = ⊥

-- what a fault of a module is about, as a text: of the adapter or the library of a name, also where the component does not
-- need it
abbrev pub IsAdapterPlace : EncoderView → ValidateFault → Option WorldPlace → ModuleRecord → NamedAdapter → Type 0
IsAdapterPlace e f place main x =
    MatchOption place (HasNoPlace f)
    (λ (p : WorldPlace). IsInAdapter x.0 p × IsValidationPlace (validation_input_of e main x) x.1.wasm f p.place)

abbrev pub IsModulePlaceText : EncoderView → WorldFault → List ℕ → Type 0
IsModulePlaceText e (Adapter n f) text =
    (p : Option WorldPlace) × IsUnder e (string_bytes n) (IsAdapterPlace e f p) × (text ≡ world_place_text (Adapter n f) p)
IsModulePlaceText e f text = IsWorldPlaceText e f text

-- the module that is asked for is valid, for the encoder that the message and the modules are; and there is none to be
-- validated
abbrev pub IsValidOf : List ℕ → List ℕ → Option (List ℕ) → Type 0
IsValidOf message modules name = (e : EncoderView) × IsEncoderOf message modules e × IsModuleValid e name

abbrev pub IsNoModuleOf : List ℕ → List ℕ → Option (List ℕ) → Type 0
IsNoModuleOf message modules name = (e : EncoderView) × IsEncoderOf message modules e × IsNoModule e name

-- why it is refused, and what that is about: a module, or else the message
abbrev pub IsValidationCause : List ℕ → List ℕ → Option (List ℕ) → MessageFault → Type 0
IsValidationCause message modules name (World f) = (e : EncoderView) × IsEncoderOf message modules e × IsModuleRefused e name f
IsValidationCause message modules name f = IsNoEncoderCause message modules f

abbrev pub IsValidationPlaceOf : List ℕ → List ℕ → MessageFault → List ℕ → Type 0
IsValidationPlaceOf message modules (World f) text = (e : EncoderView) × IsEncoderOf message modules e × IsModulePlaceText e f text
IsValidationPlaceOf message modules f text = IsPlaceOf message modules f text

abbrev pub IsValidationFaultOf : List ℕ → List ℕ → Option (List ℕ) → Answer → List ℕ → List ℕ → Type 0
IsValidationFaultOf message modules name = IsFaultAnswered (IsValidationCause message modules name) (IsValidationPlaceOf message modules)
