-- Words of contracts of private functions. No contract of a public function cites these, directly or through others.
-- What is answered for an encoder and its plan.
use Rattle.std.specs.Prelude.{◌≡◌, ℕ, List, None, Option, ⊤}
use Rattle.wc_encoder.specs.EncoderParts.{EncoderView}
use Rattle.wc_plan.specs.Fault.{IsFirstFault}
use Rattle.wc_world.specs.Options.{OptionsOf}
use Rattle.wc_world.specs.Views.{ComponentWorldView}
use Rattle.wc_world.specs.World.{IsWorldOf}
use Rattle.wc_calls.specs.PlannedWorlds.{IsPlannedText}
use Rattle.wc_calls.specs.Private.Refusals.{IsPlanAt, RefusedMessage}
use Rattle.wc_calls.specs.declared.message_fault.MessageFault.{MessageFault}
use Rattle.wc_calls.specs.declared.message_fault.MessageFault.TheVariants.{Memory, Plan}
use Rattle.wc_calls.specs.declared.refusals.MessagePlace.{MessagePlace}

-- the modules of the world that options make of an encoder, of this length, and then the world with its plan as JSON
pub record IsPlannedFor (options : OptionsOf) (e : EncoderView) (module_length : ℕ) (text : List ℕ) : Type 0 where
  pub world : ComponentWorldView
  pub made : IsWorldOf options e world
  pub is : IsPlannedText world module_length text

-- why a world has no plan
abbrev pub IsPlanFaultOf : ComponentWorldView → MessageFault → Type 0
IsPlanFaultOf w Memory = ⊤
IsPlanFaultOf w (Plan f) = IsFirstFault w f
IsPlanFaultOf w f = ⊥

-- and what that is about

abbrev pub IsPlanPlacedOf : ComponentWorldView → MessageFault → Option MessagePlace → Type 0
IsPlanPlacedOf w (Plan f) p = IsPlanAt w f p
IsPlanPlacedOf w f p = p ≡ None

abbrev pub IsPlanRefusalOf : ComponentWorldView → RefusedMessage → Type 0
IsPlanRefusalOf w x = IsPlanFaultOf w x.fault × IsPlanPlacedOf w x.fault x.place
