-- Faults: what a value is read as, or the first fault in it, and how a function's result agrees with that; texts and
-- numbers.
use Rattle.std.specs.Prelude.{◌≡◌, ◌≢◌, ℕ, List, [], ◌∷◌, ◌++◌, ⊤, Result, Ok, Err, IfErr, codes, string_bytes}
use Rattle.json.specs.declared.error.Error.{Error}
use Rattle.json.specs.declared.error.Error.TheVariants.{Invalid, OutOfMemory, TooLong, DuplicateKey}
use Rattle.wc_texts.specs.FaultNumbers.{carrying}
use Rattle.wc_texts.specs.FaultTexts.{memory_text}
use Rattle.wc_json.specs.declared.fault.Problem.{Problem}
use Rattle.wc_json.specs.declared.fault.Problem.TheVariants.{Missing, NotAnObject, NotOneMember, NotAList, NotAText, NotAnIndex, Unknown, LeftOut, Outdated, NotAPackageName, NotABool}
use Rattle.wc_json.specs.declared.fault.JsonFault.{JsonFault}
use Rattle.wc_json.specs.declared.fault.JsonFault.TheVariants.{Memory, NotJson, RepeatedMember, Wrong}

-- a problem, and the path that leads to it
pub record Fault : Type 0 where
  pub path : List ℕ
  pub problem : Problem

-- what a value is read as, or the first fault in it
abbrev pub Reading : Type 0 → Type 0
Reading A = Result A Fault

-- go on with what is read
infixl 10 ◌>>=◌
abbrev pub ◌>>=◌ : {A B : Type 0} → Reading A → (A → Reading B) → Reading B
(Ok a) >>= next = next a
(Err fault) >>= next = Err fault

-- the fault of a value itself
abbrev pub fault_here : Problem → Fault
fault_here problem = record { path = []; problem = problem }

-- the reading of a value that has this problem itself
abbrev pub refusal : {A : Type 0} → Problem → Reading A
refusal problem = Err (fault_here problem)

-- a fault is this one, or that memory ran out
abbrev pub IsFault : JsonFault → Fault → Type 0
IsFault Memory fault = ⊤
IsFault NotJson fault = ⊥
IsFault RepeatedMember fault = ⊥
IsFault (Wrong path problem) fault = (fault.path ≡ string_bytes path) × (fault.problem ≡ problem)

-- a reading has this fault
abbrev pub HasFault : {A : Type 0} → JsonFault → Reading A → Type 0
HasFault e (Ok a) = ⊥
HasFault e (Err fault) = IsFault e fault

-- the fault of a reading, or memory ran out
abbrev pub IsFaultOf : {A : Type 0} → JsonFault → Reading A → Type 0
IsFaultOf Memory reading = ⊤
IsFaultOf NotJson reading = HasFault NotJson reading
IsFaultOf RepeatedMember reading = HasFault RepeatedMember reading
IsFaultOf (Wrong path problem) reading = HasFault (Wrong path problem) reading

-- a result, seen by view, is the reading, or memory ran out
abbrev pub Reads : {A B : Type 0} → (A → B) → Result A JsonFault → Reading B → Type 0
Reads view (Ok a) reading = reading ≡ Ok (view a)
Reads view (Err e) reading = IsFaultOf e reading

-- memory did not run out
abbrev pub NeedsNoMemory : {A : Type 0} → Result A JsonFault → Type 0
NeedsNoMemory result = IfErr result (λ f. f ≢ Memory)

-- a reading has a fault below the value itself: one whose path has a step
abbrev pub IsFaultBelow : {A : Type 0} → Reading A → Type 0
IsFaultBelow (Ok a) = ⊥
IsFaultBelow (Err fault) = fault.path ≢ []

-- memory ran out only while the path of a fault was made
abbrev pub NeedsMemoryForPaths : {A B : Type 0} → Result A JsonFault → Reading B → Type 0
NeedsMemoryForPaths result reading = IfErr result (λ f. f ≡ Memory → IsFaultBelow reading)

-- the fault of a text that is no JSON value without repeated members
abbrev pub of_json : Error → JsonFault
of_json Invalid = NotJson
of_json TooLong = NotJson
of_json DuplicateKey = RepeatedMember
of_json OutOfMemory = Memory

-- texts

abbrev pub problem_text : Problem → List ℕ
problem_text Missing = codes "missing"
problem_text NotAnObject = codes "not an object"
problem_text NotOneMember = codes "not an object of one member"
problem_text NotAList = codes "not a list"
problem_text NotAText = codes "not a text"
problem_text NotAnIndex = codes "not an index"
problem_text Unknown = codes "unknown"
problem_text LeftOut = codes "kind of type that is left out"
problem_text Outdated = codes "member of an older form"
problem_text NotAPackageName = codes "not a package name"
problem_text NotABool = codes "not a truth value"

-- a path, a colon, a space and a problem; of the empty path the problem alone
abbrev pub path_and_problem_text : List ℕ → List ℕ → List ℕ
path_and_problem_text [] problem = problem
path_and_problem_text (c ∷ path) problem = (c ∷ path) ++ (codes ": " ++ problem)

abbrev pub json_fault_text : JsonFault → List ℕ
json_fault_text Memory = memory_text
json_fault_text NotJson = codes "not JSON"
json_fault_text RepeatedMember = codes "repeated member"
json_fault_text (Wrong path problem) = path_and_problem_text (string_bytes path) (problem_text problem)

-- numbers: the position in the enum, and 256 times the number of what is carried

abbrev pub problem_number : Problem → ℕ
problem_number Missing = 0
problem_number NotAnObject = 1
problem_number NotOneMember = 2
problem_number NotAList = 3
problem_number NotAText = 4
problem_number NotAnIndex = 5
problem_number Unknown = 6
problem_number LeftOut = 7
problem_number Outdated = 8
problem_number NotAPackageName = 9
problem_number NotABool = 10

abbrev pub json_fault_number : JsonFault → ℕ
json_fault_number Memory = 0
json_fault_number NotJson = 1
json_fault_number RepeatedMember = 2
json_fault_number (Wrong path problem) = carrying 3 (problem_number problem)
