-- What the call that makes a component's world answers.
use Rattle.std.specs.Prelude.{◌≡◌, ◌++◌, ℕ, List, length, flat_map}
use Rattle.wc_encoder.specs.EncoderParts.{EncoderView}
use Rattle.wc_record.specs.Texts.{world_text}
use Rattle.wc_world.specs.Options.{OptionsOf}
use Rattle.wc_world.specs.Views.{ComponentWorldView, NamedWorldAdapter}
use Rattle.wc_world.specs.World.{IsWorldOf}
use Rattle.wc_calls.specs.Encoders.{AreOptionsOf, IsEncoderOf}
use Rattle.wc_calls.specs.FaultAnswers.{IsFaultAnswered}
use Rattle.wc_calls.specs.MessageFault.{IsMessageCause}
use Rattle.wc_calls.specs.Places.{IsPlaceOf}
use Rattle.wc_calls.specs.declared.answers.Answer.{Answer}

-- the main module and the adapters, one after another
abbrev pub modules_text : ComponentWorldView → List ℕ
modules_text w = w.encoder.module_bytes ++ flat_map (λ (a : NamedWorldAdapter). a.1.wasm) w.adapters

-- the modules of a component's world, of this length, and then the world as JSON: that which the options that the message
-- gives make of the encoder that the message and the modules are
pub record IsWorldAnswer (message modules : List ℕ) (module_length : ℕ) (text : List ℕ) : Type 0 where
  pub encoder : EncoderView
  pub encodes : IsEncoderOf message modules encoder
  pub options : OptionsOf
  pub given : AreOptionsOf message options
  pub world : ComponentWorldView
  pub made : IsWorldOf options encoder world
  pub size : module_length ≡ length (modules_text world)
  pub whole : text ≡ modules_text world ++ world_text world

-- the fault has its cause, and is not Memory; after its text is what it is about
abbrev pub IsFaultOf : List ℕ → List ℕ → Answer → List ℕ → List ℕ → Type 0
IsFaultOf message modules = IsFaultAnswered (IsMessageCause message modules) (IsPlaceOf message modules)
