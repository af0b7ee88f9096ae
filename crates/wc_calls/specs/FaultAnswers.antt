-- How a fault of a message is answered: its number, its text, and after that what it is about.
use Rattle.std.specs.Prelude.{◌≡◌, ◌++◌, ◌<◌, ◌≤◌, ℕ, List, length, false}
use Rattle.wc_calls.specs.Answers.{IsFront, failed}
use Rattle.wc_calls.specs.MemoryFaults.{is_memory}
use Rattle.wc_calls.specs.MessageFault.{message_fault_number, message_fault_text}
use Rattle.wc_calls.specs.declared.answers.Answer.{Answer}
use Rattle.wc_calls.specs.declared.message_fault.MessageFault.{MessageFault}

-- a fault by its number; its text and its place are in the front of the buffer, or longer than it; the place begins where
-- the text ends
pub record IsFaultAnswer (f : MessageFault) (place : List ℕ) (answer : Answer) (old new : List ℕ) : Type 0 where
  pub status : answer.status ≡ failed
  pub number : answer.fault ≡ message_fault_number f
  pub size : answer.length ≡ length (message_fault_text f ++ place)
  pub cut : answer.position ≡ length (message_fault_text f)
  pub no_module : answer.module_length ≡ 0
  pub put : length (message_fault_text f ++ place) ≤ length old → IsFront (message_fault_text f ++ place) old new
  pub longer : length old < length (message_fault_text f ++ place) → new ≡ old

-- the answer is a fault with this cause, which neither is nor carries a Memory, and with this place
abbrev pub IsFaultAnswered : (MessageFault → Type 0) → (MessageFault → List ℕ → Type 0) → Answer → List ℕ → List ℕ → Type 0
IsFaultAnswered IsCause IsPlace answer old new =
    (f : MessageFault) × IsCause f × (is_memory f ≡ false) × (place : List ℕ) × IsPlace f place × IsFaultAnswer f place answer old new
