-- Words of contracts of private functions. No contract of a public function cites these, directly or through others.
-- What a call on the world of a component answers for an encoder.
use Rattle.std.specs.Prelude.{◌⊎◌, ℕ, List}
use Rattle.wc_encoder.specs.EncoderParts.{EncoderView}
use Rattle.wc_world.specs.Options.{OptionsOf}
use Rattle.wc_world.specs.Views.{ComponentWorldView}
use Rattle.wc_world.specs.World.{IsWorldOf}
use Rattle.wc_calls.specs.FaultAnswers.{IsFaultAnswered}
use Rattle.wc_calls.specs.Private.EncoderAnswers.{IsFaultFor, IsPlaceFor}
use Rattle.wc_calls.specs.WorldCalls.{AnswerIs, IsWorldless}
use Rattle.wc_calls.specs.declared.answers.Answer.{Answer}

-- the answer is as `Is` says for the world that options make of an encoder; or there is none, with the fault of the encoder
abbrev pub IsAnsweredFor : (ComponentWorldView → AnswerIs) → OptionsOf → EncoderView → Answer → List ℕ → List ℕ → Type 0
IsAnsweredFor Is options e answer old new =
    ((w : ComponentWorldView) × IsWorldOf options e w × Is w answer old new)
    ⊎ IsWorldless (IsFaultAnswered (IsFaultFor e) (IsPlaceFor e) answer old new) answer old new
