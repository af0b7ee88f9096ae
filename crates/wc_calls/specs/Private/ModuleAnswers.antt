-- Words of contracts of private functions. No contract of a public function cites these, directly or through others.
-- What is answered for one module of an encoder.
use Rattle.std.specs.Prelude.{◌≡◌, ℕ, List, [], map, MatchOption, None, Option, Some, ⊤, string_bytes}
use Rattle.std.specs.Option.{option_map}
use Rattle.wc_adapters.specs.Adapters.{library_view}
use Rattle.wc_encoder.specs.EncoderParts.{EncoderView}
use Rattle.wc_resolve.specs.Views.{key_view}
use Rattle.wc_validate.specs.Imports.Map.{required_entry}
use Rattle.wc_validate.specs.Refused.{HasNoPlace}
use Rattle.wc_validate.specs.Validate.{IsRecordOf, IsValidateCause, ModuleRecord, ValidationInput, adapter_input, main_input}
use Rattle.wc_validate.specs.declared.fault.ValidateFault.{ValidateFault}
use Rattle.wc_world.specs.Causes.{IsRefused}
use Rattle.wc_world.specs.Places.{IsInAdapter, IsValidationPlace}
use Rattle.wc_world.specs.declared.fault.WorldFault.TheVariants.{Adapter, Main}
use Rattle.wc_world.specs.declared.places.WorldPlace.{WorldPlace}
use Rattle.wc_calls.specs.Places.{world_place_text}
use Rattle.wc_calls.specs.Private.Refusals.{RefusedMessage}
use Rattle.wc_calls.specs.Validation.{IsModulePlaceText, IsModuleRefused}
use Rattle.wc_calls.specs.declared.message_fault.MessageFault.{MessageFault}
use Rattle.wc_calls.specs.declared.message_fault.MessageFault.TheVariants.{Memory, World}
use Rattle.wc_calls.specs.declared.refusals.MessagePlace.{MessagePlace}
use Rattle.wc_calls.specs.declared.refusals.MessagePlace.TheVariants as place
use Rattle.wc_calls.specs.declared.validation.AdapterInput.{AdapterInput}

-- why a module of an encoder is refused
abbrev pub IsModuleFault : EncoderView → Option (List ℕ) → MessageFault → Type 0
IsModuleFault e name Memory = ⊤
IsModuleFault e name (World f) = IsModuleRefused e name f
IsModuleFault e name f = ⊥

-- and what that is about
abbrev pub IsModulePlaceFor : EncoderView → MessageFault → List ℕ → Type 0
IsModulePlaceFor e (World f) text = IsModulePlaceText e f text
IsModulePlaceFor e f text = text ≡ []

-- what an adapter or a library is validated for
abbrev pub input_of : AdapterInput → ValidationInput
input_of g =
    adapter_input g.encoder.now (option_map library_view g.adapter.now.library_info) (map key_view g.adapter.now.required_exports.keys)
    (map required_entry g.required.now.entries)

-- it is valid
abbrev pub IsInputValid : AdapterInput → Type 0
IsInputValid g = (r : ModuleRecord) × IsRecordOf (input_of g) g.adapter.now.wasm.items r

-- what a fault of it is about: a place under its name, or none
abbrev pub IsInputPlace : AdapterInput → ValidateFault → Option WorldPlace → Type 0
IsInputPlace g f place =
    MatchOption place (HasNoPlace f) (λ (p : WorldPlace). IsInAdapter g.name.now p × IsValidationPlace (input_of g) g.adapter.now.wasm.items f p.place)

-- the same as the place of a message's fault
abbrev pub IsInputAt : AdapterInput → ValidateFault → Option MessagePlace → Type 0
IsInputAt g f None = IsInputPlace g f None
IsInputAt g f (Some (place.World p)) = IsInputPlace g f (Some p)
IsInputAt g f p = ⊥

-- why the main module is refused
abbrev pub IsMainCause : EncoderView → MessageFault → Type 0
IsMainCause e Memory = ⊤
IsMainCause e (World (Main f)) = IsValidateCause (main_input e e.module_import_map) e.module_bytes f
IsMainCause e f = ⊥

-- why an adapter or a library is, and what that is about
abbrev pub IsInputCause : AdapterInput → MessageFault → Option MessagePlace → Type 0
IsInputCause g Memory p = p ≡ None
IsInputCause g (World (Adapter own f)) p =
    (string_bytes own ≡ g.name.now) × IsValidateCause (input_of g) g.adapter.now.wasm.items f × IsInputAt g f p
IsInputCause g f p = ⊥

abbrev pub IsInputRefusal : AdapterInput → RefusedMessage → Type 0
IsInputRefusal g x = IsInputCause g x.fault x.place

-- the fault of an adapter or a library, which is not that an allocation failed, and what it is about, as a text

abbrev pub IsInputFault : AdapterInput → MessageFault → Type 0
IsInputFault g Memory = ⊤
IsInputFault g (World (Adapter own f)) = (string_bytes own ≡ g.name.now) × IsRefused (input_of g) g.adapter.now.wasm.items f
IsInputFault g f = ⊥

abbrev pub IsInputPlaceFor : AdapterInput → MessageFault → List ℕ → Type 0
IsInputPlaceFor g (World (Adapter own f)) text = (p : Option WorldPlace) × IsInputPlace g f p × (text ≡ world_place_text (Adapter own f) p)
IsInputPlaceFor g f text = text ≡ []
