-- Words of contracts of private functions. No contract of a public function cites these, directly or through others.
-- What is answered for an encoder.
use Rattle.std.specs.Prelude.{◌≡◌, ◌++◌, ℕ, List, length, ⊤}
use Rattle.wc_encoder.specs.EncoderParts.{EncoderView}
use Rattle.wc_plan.specs.Encoder.{IsWorldCause}
use Rattle.wc_plan.specs.Fault.{HasNoFault, IsFirstFault}
use Rattle.wc_plan.specs.Plans.{plan_of}
use Rattle.wc_plan.specs.declared.fault.PlanFault.{PlanFault}
use Rattle.wc_record.specs.Texts.{plan_text, world_text}
use Rattle.wc_world.specs.Options.{OptionsOf}
use Rattle.wc_world.specs.Views.{ComponentWorldView}
use Rattle.wc_world.specs.World.{IsWorldOf}
use Rattle.wc_calls.specs.ComponentWorlds.{modules_text}
use Rattle.wc_calls.specs.Places.{IsPlanPlaceText, IsWorldPlaceText}
use Rattle.wc_calls.specs.Private.Refusals.{unplaced_text}
use Rattle.wc_calls.specs.declared.message_fault.MessageFault.{MessageFault}
use Rattle.wc_calls.specs.declared.message_fault.MessageFault.TheVariants.{Memory, World, Plan}

-- the modules of the world that options make of an encoder, of this length, and then the world as JSON
pub record IsAnswerFor (options : OptionsOf) (e : EncoderView) (module_length : ℕ) (text : List ℕ) : Type 0 where
  pub world : ComponentWorldView
  pub made : IsWorldOf options e world
  pub size : module_length ≡ length (modules_text world)
  pub whole : text ≡ modules_text world ++ world_text world

-- why there is none
abbrev pub IsFaultFor : EncoderView → MessageFault → Type 0
IsFaultFor e Memory = ⊤
IsFaultFor e (World f) = IsWorldCause e f
IsFaultFor e f = ⊥

-- what a fault of an encoder's component is about, as a text; the same where its plan is made

abbrev pub IsPlaceFor : EncoderView → MessageFault → List ℕ → Type 0
IsPlaceFor e (World f) text = IsWorldPlaceText e f text
IsPlaceFor e f text = text ≡ unplaced_text f

abbrev pub IsPlanTextFor : OptionsOf → EncoderView → PlanFault → List ℕ → Type 0
IsPlanTextFor options e f text = (w : ComponentWorldView) × IsWorldOf options e w × IsPlanPlaceText w f text

abbrev pub IsPlanPlaceFor : OptionsOf → EncoderView → MessageFault → List ℕ → Type 0
IsPlanPlaceFor options e (Plan f) text = IsPlanTextFor options e f text
IsPlanPlaceFor options e f text = IsPlaceFor e f text

-- the plan as JSON of the world that options make of an encoder
pub record IsPlanFor (options : OptionsOf) (e : EncoderView) (text : List ℕ) : Type 0 where
  pub world : ComponentWorldView
  pub made : IsWorldOf options e world
  pub servable : HasNoFault world
  pub is : text ≡ plan_text (plan_of world)

-- why there is none
abbrev pub IsPlanFaultFor : OptionsOf → EncoderView → MessageFault → Type 0
IsPlanFaultFor options e Memory = ⊤
IsPlanFaultFor options e (World f) = IsWorldCause e f
IsPlanFaultFor options e (Plan f) = (w : ComponentWorldView) × IsWorldOf options e w × IsFirstFault w f
IsPlanFaultFor options e f = ⊥
