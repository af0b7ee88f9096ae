-- Answers in a buffer: their statuses, and what the buffer has then.
use Rattle.std.specs.Prelude.{◌≡◌, ◌≢◌, ◌<◌, ◌≤◌, ◌⊎◌, ℕ, List, ◌++◌, drop, length}
use Rattle.wc_calls.specs.declared.answers.Answer.{Answer}

-- the statuses: the answer is in the buffer; a fault; the buffer is too small; the answer is the input; the arguments
-- have no answer; an allocation failed; no fault has the number

abbrev pub done : ℕ
done = 0

abbrev pub failed : ℕ
failed = 1

abbrev pub too_small : ℕ
too_small = 2

abbrev pub same : ℕ
same = 3

abbrev pub bad_argument : ℕ
bad_argument = 4

abbrev pub out_of_memory : ℕ
out_of_memory = 5

abbrev pub no_such_fault : ℕ
no_such_fault = 6

-- the text is in the front of the buffer, and the rest of the buffer is as it was
abbrev pub IsFront : List ℕ → List ℕ → List ℕ → Type 0
IsFront text old new = (length text ≤ length old) × (new ≡ text ++ drop (length text) old)

-- a text with P, of this length, is in the front of the buffer
abbrev pub IsPut : (List ℕ → Type 0) → ℕ → List ℕ → List ℕ → Type 0
IsPut P n old new = (text : List ℕ) × P text × (n ≡ length text) × IsFront text old new

-- a text with P, of this length, is longer than the buffer
abbrev pub IsTooLong : (List ℕ → Type 0) → ℕ → List ℕ → Type 0
IsTooLong P n old = (text : List ℕ) × P text × (n ≡ length text) × (length old < n)

-- the status of a call that has bytes to answer
abbrev pub IsBytesStatus : ℕ → Type 0
IsBytesStatus status = (status ≡ done) ⊎ (status ≡ too_small) ⊎ (status ≡ out_of_memory)

-- the status of a call that has bytes to answer, or a fault with a text
abbrev pub IsTextStatus : ℕ → Type 0
IsTextStatus status = IsBytesStatus status ⊎ (status ≡ failed)

-- the status of a call that says whether a module is valid; and that of a module that is there
abbrev pub IsCheckStatus : ℕ → Type 0
IsCheckStatus status = (status ≡ done) ⊎ (status ≡ failed) ⊎ (status ≡ out_of_memory)

abbrev pub IsModuleStatus : ℕ → Type 0
IsModuleStatus status = IsCheckStatus status ⊎ (status ≡ bad_argument)

-- the status of a call that has bytes to answer, or a fault with a text, or no answer for such arguments
abbrev pub IsAskedStatus : ℕ → Type 0
IsAskedStatus status = IsTextStatus status ⊎ (status ≡ bad_argument)

-- no fault, and no bytes, in the numbers of an answer
abbrev pub HasNoFault : Answer → Type 0
HasNoFault a = (a.fault ≡ 0) × (a.position ≡ 0)

abbrev pub HasNoBytes : Answer → Type 0
HasNoBytes a = (a.length ≡ 0) × (a.module_length ≡ 0)

-- a fault of a call on bytes, by its number and a position; what it is about is in the front of the buffer, or longer than
-- it
pub record IsFaultPut (n at : ℕ) (place : List ℕ) (answer : Answer) (old new : List ℕ) : Type 0 where
  pub status : answer.status ≡ failed
  pub number : answer.fault ≡ n
  pub position : answer.position ≡ at
  pub size : answer.length ≡ length place
  pub no_module : answer.module_length ≡ 0
  pub put : length place ≤ length old → IsFront place old new
  pub longer : length old < length place → new ≡ old

-- what an answer has no use for is 0; a fault of the call has no bytes
abbrev pub AreOthersZero : Answer → Type 0
AreOthersZero a = (a.status ≢ failed → HasNoFault a) × (a.status ≢ done → a.status ≢ too_small → HasNoBytes a)

-- the same, of a call whose faults have a text
abbrev pub AreOthersOfTextZero : Answer → Type 0
AreOthersOfTextZero a =
    (a.status ≢ failed → HasNoFault a)
    × (a.status ≢ done → a.status ≢ too_small → a.module_length ≡ 0)
    × (a.status ≢ done → a.status ≢ too_small → a.status ≢ failed → a.length ≡ 0)

-- the same, of a call whose faults alone have bytes, which are no modules
abbrev pub AreOthersOfFaultZero : Answer → Type 0
AreOthersOfFaultZero a = (a.module_length ≡ 0) × (a.status ≢ failed → HasNoFault a × HasNoBytes a)
