-- Calls on the world of a component: what is answered for an encoder is so for the message that it is of.
use Rattle.std.proofs.Common.{ℕ, List, inl, inr}
use Rattle.wc_encoder.specs.EncoderParts.{EncoderView}
use Rattle.wc_world.specs.Options.{OptionsOf}
use Rattle.wc_world.specs.Views.{ComponentWorldView}
use Rattle.wc_calls.specs.Encoders.{AreOptionsOf, IsEncoderOf}
use Rattle.wc_calls.specs.Private.WorldAnswers.{IsAnsweredFor}
use Rattle.wc_calls.specs.WorldCalls.{AnswerIs, IsAnsweredForWorld, IsWorldless}
use Rattle.wc_calls.specs.declared.answers.Answer.{Answer}
use Rattle.wc_calls.proofs.FaultAnswerLemmas.{world_refused}

-- there is no world, by more that is known of the fault
pub worldless_by : (P Q : Type 0) (a : Answer) (old new : List ℕ) → (P → Q) → IsWorldless P a old new → IsWorldless Q a old new
worldless_by P Q a old new f h = record { fault = λ is. f (h.fault is); unchanged = h.unchanged; statuses = h.statuses; others = h.others }

pub answered_for_message : (Is : ComponentWorldView → AnswerIs) (message modules : List ℕ) (options : OptionsOf) (e : EncoderView) (a : Answer) (old new : List ℕ)
    → IsEncoderOf message modules e → AreOptionsOf message options → IsAnsweredFor Is options e a old new → IsAnsweredForWorld Is message modules a old new
answered_for_message Is message modules options e a old new encodes given (inl (w, made, is)) =
    inl (record { encoder = e; encodes = encodes; options = options; given = given; world = w; made = made; is = is })
answered_for_message Is message modules options e a old new encodes given (inr h) =
    inr (worldless_by _ _ a old new (world_refused message modules e a old new encodes) h)
