-- Why a message is refused, and what that is about.
use Rattle.std.proofs.Common.{◌≡◌, ◌⊎◌, ◌∙◌, List, ℕ, Option, None, Some, Result, Ok, Err, IfErr, ap, inl, inr, refl, sym, subst}
use Rattle.std.specs.Option.{option_map}
use Rattle.wc_encoder.specs.EncoderParts.{EncoderView}
use Rattle.wc_plan.specs.Fault.{IsFaultNamed, IsFirstFault, IsPlanRefusal, RefusedPlan, UseFault, no_lowering, no_memory, no_realloc, place_view}
use Rattle.wc_plan.specs.declared.fault.PlanFault.{PlanFault}
use Rattle.wc_plan.specs.declared.fault.PlanFault.TheVariants.{Memory as plan_memory, World as plan_world}
use Rattle.wc_plan.specs.declared.fault.PlanPlace.{PlanPlace}
use Rattle.wc_texts.specs.declared.refused.Refused.{Refused}
use Rattle.wc_world.specs.Options.{OptionsOf}
use Rattle.wc_world.specs.Refused.{IsPlaceOrNone}
use Rattle.wc_world.specs.Views.{ComponentWorldView}
use Rattle.wc_world.specs.World.{IsWorldOf}
use Rattle.wc_world.specs.declared.fault.WorldFault.{WorldFault}
use Rattle.wc_world.specs.declared.fault.WorldFault.TheVariants.{Memory as world_memory}
use Rattle.wc_world.specs.declared.places.WorldPlace.{WorldPlace}
use Rattle.wc_calls.specs.FaultAnswers.{IsFaultAnswered}
use Rattle.wc_calls.specs.MessageFault.{of_plan, of_world}
use Rattle.wc_calls.specs.Places.{IsPlanPlace, IsPlanPlaceText, IsWorldPlaceText}
use Rattle.wc_calls.specs.Private.EncoderAnswers.{IsPlaceFor, IsPlanFaultFor, IsPlanPlaceFor}
use Rattle.wc_calls.specs.Private.PlannedAnswers.{IsPlanFaultOf, IsPlanPlacedOf, IsPlanRefusalOf}
use Rattle.wc_calls.specs.Private.Refusals.{IsPlacedFor, IsPlanAt, IsPlanPlacedFor, IsRefusalOf, IsWithoutPlace, IsWorldAt, RefusedMessage, refusal_text}
use Rattle.wc_calls.specs.declared.answers.Answer.{Answer}
use Rattle.wc_calls.specs.declared.message_fault.MessageFault.{MessageFault}
use Rattle.wc_calls.specs.declared.message_fault.MessageFault.TheVariants.{Memory, Plan, World}
use Rattle.wc_calls.specs.declared.refusals.MessagePlace.{MessagePlace}
use Rattle.wc_calls.specs.declared.refusals.MessagePlace.TheVariants as place
use Rattle.wc_calls.proofs.FaultAnswerLemmas.{answered_as}

-- what is so of the fault of another refusal, as one of a message; and of its fault and its place

pub refusal_fault : {F P : Type 0} (Q : MessageFault → Type 0) (of : F → MessageFault) (kind : P → MessagePlace) (r : Refused F P) (x : RefusedMessage)
    → IsRefusalOf of kind r x → Q (of r.fault) → Q x.fault
refusal_fault Q of kind r x is own = subst Q (sym is.0) own

pub refusal_as : {F P : Type 0} (Q : MessageFault → Option MessagePlace → Type 0) (of : F → MessageFault) (kind : P → MessagePlace) (r : Refused F P)
    (x : RefusedMessage) → IsRefusalOf of kind r x → Q (of r.fault) (option_map kind r.place) → Q x.fault x.place
refusal_as Q of kind r x is own = subst (Q x.fault) (sym is.1) (subst (λ g. Q g (option_map kind r.place)) (sym is.0) own)

-- the same of a fault without a place
pub without_as : (Q : MessageFault → Option MessagePlace → Type 0) (f : MessageFault) (x : RefusedMessage) → IsWithoutPlace f x → Q f None → Q x.fault x.place
without_as Q f x is own = subst (Q x.fault) (sym is.1) (subst (λ g. Q g None) (sym is.0) own)

-- an allocation failed

pub memory_fault : {A : Type 0} (P : MessageFault → Type 0) (r : Result A RefusedMessage) → P Memory → IfErr r (IsWithoutPlace Memory) → IfErr r (λ x. P x.fault)
memory_fault P (Ok a) memory is = tt
memory_fault P (Err x) memory is = subst P (sym is.0) memory

pub memory_as : {A : Type 0} (Q : MessageFault → Option MessagePlace → Type 0) (r : Result A RefusedMessage) → Q Memory None → IfErr r (IsWithoutPlace Memory)
    → IfErr r (λ x. Q x.fault x.place)
memory_as Q (Ok a) memory is = tt
memory_as Q (Err x) memory is = without_as Q Memory x is memory

-- the place of a fault of a component's world, as that of a message
pub world_at : (e : EncoderView) (f : WorldFault) (p : Option WorldPlace) → IsPlaceOrNone e f p → IsPlacedFor e (of_world f) (option_map place.World p)
world_at e world_memory None h = refl
world_at e world_memory (Some p) h = absurd h
world_at e f None h = h
world_at e f (Some p) h = h

-- the refusal of a world that has no plan

no_carried : (w : ComponentWorldView) (f : PlanFault) (first : IsFirstFault w f) (k : UseFault) → first.kind ≡ k → ((k : UseFault) → IsFaultNamed k first.at.0.name f → ⊥) → ⊥
no_carried w f first k is none = none k (subst (λ j. IsFaultNamed j first.at.0.name f) is first.named)

memory_unnamed : (name : List ℕ) (k : UseFault) → IsFaultNamed k name plan_memory → ⊥
memory_unnamed name no_memory h = h
memory_unnamed name no_realloc h = h
memory_unnamed name no_lowering h = h

world_unnamed : (name : List ℕ) (g : WorldFault) (k : UseFault) → IsFaultNamed k name (plan_world g) → ⊥
world_unnamed name g no_memory h = h
world_unnamed name g no_realloc h = h
world_unnamed name g no_lowering h = h

first_refused : (w : ComponentWorldView) (f : PlanFault) (p : PlanPlace) (first : IsFirstFault w f) → place_view p ≡ first.at.0
    → IsPlanFaultOf w (of_plan f) × IsPlanPlacedOf w (of_plan f) (Some (place.Plan p))
first_refused w plan_memory p first at = absurd (no_carried w plan_memory first first.kind refl (memory_unnamed first.at.0.name))
first_refused w (plan_world g) p first at = absurd (no_carried w (plan_world g) first first.kind refl (world_unnamed first.at.0.name g))
first_refused w f p first at = (first, (first, at))

placed_refused : (w : ComponentWorldView) (f : PlanFault) (p : Option PlanPlace) (first : IsFirstFault w f) → option_map place_view p ≡ Some first.at.0
    → IsPlanFaultOf w (of_plan f) × IsPlanPlacedOf w (of_plan f) (option_map place.Plan p)
placed_refused w f None first at = absurd (let bad : ⊥ = cc at in bad)
placed_refused w f (Some p) first at = first_refused w f p first (let same : place_view p ≡ first.at.0 = cc at in same)

plan_refusal_of : (w : ComponentWorldView) (r : RefusedPlan) → IsPlanRefusal w r
    → IsPlanFaultOf w (of_plan r.fault) × IsPlanPlacedOf w (of_plan r.fault) (option_map place.Plan r.place)
plan_refusal_of w r (inl memory) =
    subst (λ f. IsPlanFaultOf w (of_plan f) × IsPlanPlacedOf w (of_plan f) (option_map place.Plan r.place)) (sym memory.0)
    (tt, ap (option_map place.Plan) memory.1)
plan_refusal_of w r (inr (first, at)) = placed_refused w r.fault r.place first at

pub plan_refused : (w : ComponentWorldView) (r : RefusedPlan) (x : RefusedMessage) → IsPlanRefusal w r → IsRefusalOf of_plan place.Plan r x
    → IsPlanRefusalOf w x
plan_refused w r x h is =
    refusal_as (λ f p. IsPlanFaultOf w f × IsPlanPlacedOf w f p) of_plan place.Plan r x is (plan_refusal_of w r h)

-- what a refusal is about, as a text

world_text_at : (e : EncoderView) (f : WorldFault) (p : Option MessagePlace) (text : List ℕ) → IsWorldAt e f p → text ≡ refusal_text (World f) p
    → IsWorldPlaceText e f text
world_text_at e f None text at is = (None, at, is)
world_text_at e f (Some (place.World p)) text at is = (Some p, at, is)
world_text_at e f p text at is = absurd at

pub place_for : (e : EncoderView) (f : MessageFault) (p : Option MessagePlace) (text : List ℕ) → IsPlacedFor e f p → text ≡ refusal_text f p → IsPlaceFor e f text
place_for e (World f) p text at is = world_text_at e f p text at is
place_for e f p text none is = is ∙ ap (refusal_text f) none

plan_text_at : (w : ComponentWorldView) (f : PlanFault) (p : Option MessagePlace) (text : List ℕ) → IsPlanAt w f p → text ≡ refusal_text (Plan f) p
    → IsPlanPlaceText w f text
plan_text_at w f (Some (place.Plan p)) text at is = (p, at, is)
plan_text_at w f p text at is = absurd at

plan_place_for : (options : OptionsOf) (e : EncoderView) (f : MessageFault) (p : Option MessagePlace) (text : List ℕ) → IsPlanPlacedFor options e f p
    → text ≡ refusal_text f p → IsPlanPlaceFor options e f text
plan_place_for options e (Plan f) p text (w, made, at) is = (w, made, plan_text_at w f p text at is)
plan_place_for options e f p text at is = place_for e f p text at is

-- a refusal that is answered; the same where the plan is made

pub refusal_answered : (e : EncoderView) (Q : MessageFault → Type 0) (x : RefusedMessage) (a : Answer) (old new : List ℕ) → Q x.fault → IsPlacedFor e x.fault x.place
    → IsFaultAnswered (λ f. f ≡ x.fault) (λ f text. text ≡ refusal_text x.fault x.place) a old new
    → IsFaultAnswered Q (IsPlaceFor e) a old new
refusal_answered e Q x a old new cause placed answered =
    answered_as x.fault Q (λ f text. text ≡ refusal_text x.fault x.place) (IsPlaceFor e) a old new cause
    (λ text is. place_for e x.fault x.place text placed is) answered

pub plan_refusal_answered : (options : OptionsOf) (e : EncoderView) (x : RefusedMessage) (a : Answer) (old new : List ℕ) → IsPlanFaultFor options e x.fault
    → IsPlanPlacedFor options e x.fault x.place → IsFaultAnswered (λ f. f ≡ x.fault) (λ f text. text ≡ refusal_text x.fault x.place) a old new
    → IsFaultAnswered (IsPlanFaultFor options e) (IsPlanPlaceFor options e) a old new
plan_refusal_answered options e x a old new cause placed answered =
    answered_as x.fault (IsPlanFaultFor options e) (λ f text. text ≡ refusal_text x.fault x.place) (IsPlanPlaceFor options e) a old new cause
    (λ text is. plan_place_for options e x.fault x.place text placed is) answered
