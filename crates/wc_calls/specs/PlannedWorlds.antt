-- What the call that makes a component's world and its plan answers.
use Rattle.std.specs.Prelude.{◌≡◌, ◌++◌, ℕ, List, length}
use Rattle.wc_encoder.specs.EncoderParts.{EncoderView}
use Rattle.wc_plan.specs.Fault.{HasNoFault}
use Rattle.wc_plan.specs.Plans.{plan_of}
use Rattle.wc_record.specs.Texts.{planned_world_text}
use Rattle.wc_world.specs.Options.{OptionsOf}
use Rattle.wc_world.specs.Views.{ComponentWorldView}
use Rattle.wc_world.specs.World.{IsWorldOf}
use Rattle.wc_calls.specs.ComponentWorlds.{modules_text}
use Rattle.wc_calls.specs.Encoders.{AreOptionsOf, IsEncoderOf}

-- the modules of a component's world, of this length, and then the world with its plan as JSON; each function of the plan can
-- be served
pub record IsPlannedText (w : ComponentWorldView) (module_length : ℕ) (text : List ℕ) : Type 0 where
  pub servable : HasNoFault w
  pub size : module_length ≡ length (modules_text w)
  pub whole : text ≡ modules_text w ++ planned_world_text w (plan_of w)

-- such a text, of the world that the options that the message gives make of the encoder that the message and the modules are
pub record IsPlannedWorldAnswer (message modules : List ℕ) (module_length : ℕ) (text : List ℕ) : Type 0 where
  pub encoder : EncoderView
  pub encodes : IsEncoderOf message modules encoder
  pub options : OptionsOf
  pub given : AreOptionsOf message options
  pub world : ComponentWorldView
  pub made : IsWorldOf options encoder world
  pub is : IsPlannedText world module_length text
