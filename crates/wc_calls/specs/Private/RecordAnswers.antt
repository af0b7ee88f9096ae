-- Words of contracts of private functions. No contract of a public function cites these, directly or through others.
-- What is answered for what is recorded of one module of an encoder.
use Rattle.std.specs.Prelude.{◌≡◌, ℕ, List, [], Option, ⊤}
use Rattle.wc_encoder.specs.EncoderParts.{EncoderView}
use Rattle.wc_validate.specs.Validate.{IsRecordOf, ModuleRecord}
use Rattle.wc_calls.specs.Private.ModuleAnswers.{input_of}
use Rattle.wc_calls.specs.ValidatedModules.{IsAskedPlaceText, IsAskedRefused, IsRecordIn}
use Rattle.wc_calls.specs.declared.message_fault.MessageFault.{MessageFault}
use Rattle.wc_calls.specs.declared.message_fault.MessageFault.TheVariants.{Memory, World}
use Rattle.wc_calls.specs.declared.validation.AdapterInput.{AdapterInput}

-- what is recorded of an adapter or a library, and that as JSON

abbrev pub IsInputRecord : AdapterInput → ModuleRecord → Type 0
IsInputRecord g r = IsRecordOf (input_of g) g.adapter.now.wasm.items r

abbrev pub IsInputText : AdapterInput → List ℕ → Type 0
IsInputText g text = IsRecordIn text (input_of g) g.adapter.now.wasm.items

-- why there is no record of the module of an encoder that is asked for, and what that is about

abbrev pub IsRecordFault : EncoderView → Option (List ℕ) → List ℕ → MessageFault → Type 0
IsRecordFault e name required Memory = ⊤
IsRecordFault e name required (World f) = IsAskedRefused e name required f
IsRecordFault e name required f = ⊥

abbrev pub IsRecordPlaceFor : EncoderView → List ℕ → MessageFault → List ℕ → Type 0
IsRecordPlaceFor e required (World f) text = IsAskedPlaceText e required f text
IsRecordPlaceFor e required f text = text ≡ []
