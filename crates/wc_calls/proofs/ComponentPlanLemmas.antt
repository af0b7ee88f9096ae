-- What the call that makes the plan of a component answers.
use Rattle.std.proofs.Common.{◌≡◌, ℕ, List, Result, Ok, Err, IfOk, OnOk}
use Rattle.std.specs.declared.alloc.Global.{Global}
use Rattle.std.specs.declared.vec.Vec.{Vec}
use Rattle.wc_encoder.specs.EncoderParts.{EncoderView}
use Rattle.wc_plan.specs.Fault.{HasNoFault}
use Rattle.wc_plan.specs.Plans.{plan_of}
use Rattle.wc_record.specs.Texts.{plan_text}
use Rattle.wc_world.specs.Options.{OptionsOf}
use Rattle.wc_world.specs.Views.{ComponentWorldView}
use Rattle.wc_world.specs.World.{IsWorldOf}
use Rattle.wc_calls.specs.ComponentPlans.{IsPlanAnswer}
use Rattle.wc_calls.specs.Encoders.{AreOptionsOf, IsEncoderOf}
use Rattle.wc_calls.specs.Private.EncoderAnswers.{IsPlanFor}

pub plan_for_world : {A : Type 0} (options : OptionsOf) (e : EncoderView) (w : ComponentWorldView) (r : Result (Vec ℕ Global) A) → IsWorldOf options e w
    → OnOk r (HasNoFault w) → IfOk r (λ v. v.items ≡ plan_text (plan_of w)) → IfOk r (λ v. IsPlanFor options e v.items)
plan_for_world options e w (Ok v) made servable is = record { world = w; made = made; servable = servable; is = is }
plan_for_world options e w (Err x) made servable is = tt

pub planned_to : (message modules : List ℕ) (options : OptionsOf) (e : EncoderView) → IsEncoderOf message modules e → AreOptionsOf message options
    → (text : List ℕ) → IsPlanFor options e text → IsPlanAnswer message modules text
planned_to message modules options e encodes given text is =
    record { encoder = e; encodes = encodes; options = options; given = given; world = is.world; made = is.made; servable = is.servable; is = is.is }
