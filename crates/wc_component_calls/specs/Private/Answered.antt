-- Words of contracts of private functions. No contract of a public function cites these, directly or through others.
-- Texts and faults that are answered.
use Rattle.std.specs.Prelude.{◌≡◌, ◌≢◌, ℕ, List, length, Ok, Err, Result}
use Rattle.std.specs.declared.alloc.Global.{Global}
use Rattle.std.specs.declared.vec.Vec.{Vec}
use Rattle.wc_calls.specs.Answers.{AreOthersOfTextZero, IsPut, IsTextStatus, IsTooLong, done, failed, too_small}
use Rattle.wc_calls.specs.declared.answers.Answer.{Answer}
use Rattle.wc_component_calls.specs.ComponentFault.{component_fault_text}
use Rattle.wc_component_calls.specs.FaultAnswers.{IsAnsweredFault, said_of}
use Rattle.wc_component_calls.specs.declared.component_fault.ComponentFault.{ComponentFault}
use Rattle.wc_component_calls.specs.declared.fault_answers.Said.{Said}

-- the text of a fault and what it is about, and how long the text is
abbrev pub IsSaid : ComponentFault → Said → Type 0
IsSaid f s = (s.text_length ≡ length (component_fault_text f)) × (s.bytes.items ≡ said_of f)

-- a text with P is answered, or a fault with Q; or an allocation failed
pub record IsAnswered (P : List ℕ → Type 0) (Q : ComponentFault → Type 0) (answer : Answer) (old new : List ℕ) : Type 0 where
  pub put : answer.status ≡ done → IsPut P answer.length old new
  pub longer : answer.status ≡ too_small → IsTooLong P answer.length old
  pub fault : answer.status ≡ failed → IsAnsweredFault Q answer old new
  pub no_module : answer.module_length ≡ 0
  pub unchanged : answer.status ≢ done → answer.status ≢ failed → new ≡ old
  pub statuses : IsTextStatus answer.status
  pub others : AreOthersOfTextZero answer

-- the text of what was made, and its fault
abbrev pub Made : Type 0
Made = Result (Vec ℕ Global) ComponentFault

abbrev pub IsTextIn : Made → List ℕ → Type 0
IsTextIn (Ok v) text = text ≡ v.items
IsTextIn (Err g) text = ⊥

abbrev pub IsFaultIn : Made → ComponentFault → Type 0
IsFaultIn (Ok v) f = ⊥
IsFaultIn (Err g) f = f ≡ g
