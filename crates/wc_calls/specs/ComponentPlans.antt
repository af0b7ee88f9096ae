-- What the call that makes the plan of a component answers.
use Rattle.std.specs.Prelude.{◌≡◌, ℕ, List}
use Rattle.wc_encoder.specs.EncoderParts.{EncoderView}
use Rattle.wc_plan.specs.Fault.{HasNoFault}
use Rattle.wc_plan.specs.Plans.{plan_of}
use Rattle.wc_record.specs.Texts.{plan_text}
use Rattle.wc_world.specs.Options.{OptionsOf}
use Rattle.wc_world.specs.Views.{ComponentWorldView}
use Rattle.wc_world.specs.World.{IsWorldOf}
use Rattle.wc_calls.specs.Encoders.{AreOptionsOf, IsEncoderOf}

-- the plan as JSON of the world that the options that the message gives make of the encoder that the message and the modules
-- are
pub record IsPlanAnswer (message modules text : List ℕ) : Type 0 where
  pub encoder : EncoderView
  pub encodes : IsEncoderOf message modules encoder
  pub options : OptionsOf
  pub given : AreOptionsOf message options
  pub world : ComponentWorldView
  pub made : IsWorldOf options encoder world
  pub servable : HasNoFault world
  pub is : text ≡ plan_text (plan_of world)
