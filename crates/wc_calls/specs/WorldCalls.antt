-- What calls on the world of a component answer, which other crates define.
use Rattle.std.specs.Prelude.{◌≡◌, ◌≢◌, ◌⊎◌, ℕ, List}
use Rattle.wc_encoder.specs.EncoderParts.{EncoderView}
use Rattle.wc_world.specs.Options.{OptionsOf}
use Rattle.wc_world.specs.Views.{ComponentWorldView}
use Rattle.wc_world.specs.World.{IsWorldOf}
use Rattle.wc_calls.specs.Answers.{AreOthersOfTextZero, failed, out_of_memory}
use Rattle.wc_calls.specs.ComponentWorlds.{IsFaultOf}
use Rattle.wc_calls.specs.Encoders.{AreOptionsOf, IsEncoderOf}
use Rattle.wc_calls.specs.declared.answers.Answer.{Answer}

-- this is so of the world that the options that the message gives make of the encoder that the message and the modules are
pub record IsOfWorld (message modules : List ℕ) (Is : ComponentWorldView → Type 0) : Type 0 where
  pub encoder : EncoderView
  pub encodes : IsEncoderOf message modules encoder
  pub options : OptionsOf
  pub given : AreOptionsOf message options
  pub world : ComponentWorldView
  pub made : IsWorldOf options encoder world
  pub is : Is world

-- there is no world: the fault is so, or an allocation failed
pub record IsWorldless (IsFault : Type 0) (answer : Answer) (old new : List ℕ) : Type 0 where
  pub fault : answer.status ≡ failed → IsFault
  pub unchanged : answer.status ≢ failed → new ≡ old
  pub statuses : (answer.status ≡ failed) ⊎ (answer.status ≡ out_of_memory)
  pub others : AreOthersOfTextZero answer

-- what is so of an answer, and of the buffer before and after
abbrev pub AnswerIs : Type 1
AnswerIs = Answer → List ℕ → List ℕ → Type 0

-- the answer is as `Is` says for the world of the message; or there is none, with the fault of the message
abbrev pub IsAnsweredForWorld : (ComponentWorldView → AnswerIs) → List ℕ → List ℕ → Answer → List ℕ → List ℕ → Type 0
IsAnsweredForWorld Is message modules answer old new =
    IsOfWorld message modules (λ w. Is w answer old new) ⊎ IsWorldless (IsFaultOf message modules answer old new) answer old new
