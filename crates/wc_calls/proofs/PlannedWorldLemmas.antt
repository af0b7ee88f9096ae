-- What the call that makes a component's world and its plan answers.
use Rattle.std.proofs.Common.{◌≡◌, ◌++◌, ℕ, List, Option, Result, Ok, Err, IfOk, IfErr, length, ap, refl, subst}
use Rattle.wc_encoder.specs.EncoderParts.{EncoderView}
use Rattle.wc_plan.specs.Fault.{HasNoFault}
use Rattle.wc_plan.specs.Plans.{plan_of}
use Rattle.wc_record.specs.Texts.{planned_world_text}
use Rattle.wc_plan.specs.Views.{UseView}
use Rattle.wc_world.specs.Options.{OptionsOf}
use Rattle.wc_world.specs.Views.{ComponentWorldView}
use Rattle.wc_world.specs.World.{IsWorldOf}
use Rattle.wc_calls.specs.ComponentWorlds.{modules_text}
use Rattle.wc_calls.specs.Encoders.{AreOptionsOf, IsEncoderOf}
use Rattle.wc_calls.specs.PlannedWorlds.{IsPlannedText, IsPlannedWorldAnswer}
use Rattle.wc_calls.specs.Private.EncoderAnswers.{IsFaultFor, IsPlanFaultFor}
use Rattle.wc_calls.specs.Private.PlannedAnswers.{IsPlanFaultOf, IsPlanPlacedOf, IsPlanRefusalOf, IsPlannedFor}
use Rattle.wc_calls.specs.Private.Refusals.{IsPlacedFor, IsPlanPlacedFor, IsWithoutPlace, RefusedMessage}
use Rattle.wc_calls.specs.declared.component_worlds.WorldAnswer.{WorldAnswer}
use Rattle.wc_calls.specs.declared.message_fault.MessageFault.{MessageFault}
use Rattle.wc_calls.specs.declared.message_fault.MessageFault.TheVariants.{Memory, Plan, World}
use Rattle.wc_calls.specs.declared.refusals.MessagePlace.{MessagePlace}
use Rattle.wc_calls.proofs.RefusalLemmas.{memory_as}

-- what is answered for a world with this plan

pub planned_text : {A : Type 0} (w : ComponentWorldView) (uses : List UseView) (r : Result WorldAnswer A) → HasNoFault w → uses ≡ plan_of w
    → IfOk r (λ a. a.modules.items ≡ modules_text w) → IfOk r (λ a. a.json.items ≡ planned_world_text w uses)
    → IfOk r (λ a. IsPlannedText w (length a.modules.items) (a.modules.items ++ a.json.items))
planned_text w uses (Ok a) servable is modules json = record {
  servable = servable;
  size = ap length modules;
  whole = (λ i. modules i ++ subst (λ us. a.json.items ≡ planned_world_text w us) is json i);
}
planned_text w uses (Err x) servable is modules json = tt

-- the same for an encoder and options, of which this is the component's world

pub planned_for : {A : Type 0} (options : OptionsOf) (e : EncoderView) (w : ComponentWorldView) (r : Result WorldAnswer A) → IsWorldOf options e w
    → IfOk r (λ a. IsPlannedText w (length a.modules.items) (a.modules.items ++ a.json.items))
    → IfOk r (λ a. IsPlannedFor options e (length a.modules.items) (a.modules.items ++ a.json.items))
planned_for options e w (Ok a) made is = record { world = w; made = made; is = is }
planned_for options e w (Err x) made is = tt

fault_of_plan : (options : OptionsOf) (e : EncoderView) (w : ComponentWorldView) → IsWorldOf options e w → (f : MessageFault) → IsPlanFaultOf w f
    → IsPlanFaultFor options e f
fault_of_plan options e w made Memory h = tt
fault_of_plan options e w made (Plan f) h = (w, made, h)
fault_of_plan options e w made f h = absurd h

place_of_plan : (options : OptionsOf) (e : EncoderView) (w : ComponentWorldView) → IsWorldOf options e w → (f : MessageFault) (p : Option MessagePlace)
    → IsPlanFaultOf w f → IsPlanPlacedOf w f p → IsPlanPlacedFor options e f p
place_of_plan options e w made Memory p h at = at
place_of_plan options e w made (Plan f) p h at = (w, made, at)
place_of_plan options e w made f p h at = absurd h

pub faults_of_plan : {A : Type 0} (options : OptionsOf) (e : EncoderView) (w : ComponentWorldView) (r : Result A RefusedMessage) → IsWorldOf options e w
    → IfErr r (IsPlanRefusalOf w) → IfErr r (λ x. IsPlanFaultFor options e x.fault)
faults_of_plan options e w (Ok a) made h = tt
faults_of_plan options e w (Err x) made h = fault_of_plan options e w made x.fault h.0

pub places_of_plan : {A : Type 0} (options : OptionsOf) (e : EncoderView) (w : ComponentWorldView) (r : Result A RefusedMessage) → IsWorldOf options e w
    → IfErr r (IsPlanRefusalOf w) → IfErr r (λ x. IsPlanPlacedFor options e x.fault x.place)
places_of_plan options e w (Ok a) made h = tt
places_of_plan options e w (Err x) made h = place_of_plan options e w made x.fault x.place h.0 h.1

-- an allocation failed
pub memory_of_plan : {A : Type 0} (w : ComponentWorldView) (r : Result A RefusedMessage) → IfErr r (IsWithoutPlace Memory) → IfErr r (IsPlanRefusalOf w)
memory_of_plan w r is = memory_as (λ f p. IsPlanFaultOf w f × IsPlanPlacedOf w f p) r (tt, refl) is

-- and where there is none
pub world_fault_of_plan : (options : OptionsOf) (e : EncoderView) (f : MessageFault) → IsFaultFor e f → IsPlanFaultFor options e f
world_fault_of_plan options e Memory h = tt
world_fault_of_plan options e (World f) h = h
world_fault_of_plan options e f h = absurd h

-- the same for a message
pub planned_to : (message modules : List ℕ) (options : OptionsOf) (e : EncoderView) (module_length : ℕ) → IsEncoderOf message modules e
    → AreOptionsOf message options → (text : List ℕ) → IsPlannedFor options e module_length text
    → IsPlannedWorldAnswer message modules module_length text
planned_to message modules options e module_length encodes given text is =
    record { encoder = e; encodes = encodes; options = options; given = given; world = is.world; made = is.made; is = is.is }

-- a fault of the world is about the same where a plan is wanted
pub world_place_of_plan : (options : OptionsOf) (e : EncoderView) (f : MessageFault) (p : Option MessagePlace) → IsFaultFor e f → IsPlacedFor e f p
    → IsPlanPlacedFor options e f p
world_place_of_plan options e (Plan f) p h at = absurd h
world_place_of_plan options e f p h at = at
