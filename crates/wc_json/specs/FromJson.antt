-- How truth values, texts, values that may be null, and lists are read, and values from texts.
use Rattle.std.specs.Prelude.{◌≡◌, ℕ, ◌+◌, Bool, List, [], ◌∷◌, Option, Some, None, Ok, ⊤, IsSomeAnd}
use Rattle.json.specs.Json.{Json, null, boolean, string, array, object, Items, no_items, item}
use Rattle.json.specs.Strict.{HasUniqueKeys}
use Rattle.wc_json.specs.Fault.{HasFault, Reading, refusal, ◌>>=◌}
use Rattle.wc_json.specs.Paths.{at_step, index_step}
use Rattle.wc_json.specs.declared.fault.JsonFault.{JsonFault}
use Rattle.wc_json.specs.declared.fault.JsonFault.TheVariants.{Memory, NotJson, RepeatedMember, Wrong}
use Rattle.wc_json.specs.declared.fault.Problem.TheVariants.{NotABool, NotAList, NotAText}

abbrev pub truth : Json → Reading Bool
truth (boolean b) = Ok b
truth j = refusal NotABool

abbrev pub text : Json → Reading (List ℕ)
text (string s) = Ok s
text j = refusal NotAText

abbrev pub some : {A : Type 0} → Reading A → Reading (Option A)
some reading = reading >>= (λ a. Ok (Some a))

-- null is none
abbrev pub nullable : {A : Type 0} → (Json → Reading A) → Json → Reading (Option A)
nullable read null = Ok None
nullable read j = some (read j)

-- items, of which the first has this index
abbrev pub items_from : {A : Type 0} → (Json → Reading A) → ℕ → Items → Reading (List A)
items_from read n no_items = Ok []
items_from read n (item j js) = do
  a ← at_step (index_step n) (read j)
  rest ← items_from read (n + 1) js
  Ok (a ∷ rest)

abbrev pub list : {A : Type 0} → (Json → Reading A) → Json → Reading (List A)
list read (array js) = items_from read 0 js
list read j = refusal NotAList

abbrev pub IsText : Json → Type 0
IsText (string s) = ⊤
IsText j = ⊥

-- a list with an item at least
abbrev pub HasItems : Json → Type 0
HasItems (array (item j js)) = ⊤
HasItems j = ⊥

abbrev pub IsObject : Json → Type 0
IsObject (object ms) = ⊤
IsObject j = ⊥

-- the text's value has no object that repeats a member, and is read as this
abbrev pub IsReadFrom : {A B : Type 0} → (A → B) → (Json → Reading B) → Option Json → A → Type 0
IsReadFrom view read j a = IsSomeAnd j (λ j. HasUniqueKeys j × (read j ≡ Ok (view a)))

-- memory ran out; or the text is not JSON; or its value has an object that repeats a member; or the value is without
-- these, and this is its first fault
abbrev pub IsCauseOf : {B : Type 0} → (Json → Reading B) → Option Json → JsonFault → Type 0
IsCauseOf read j Memory = ⊤
IsCauseOf read j NotJson = j ≡ None
IsCauseOf read j RepeatedMember = IsSomeAnd j (λ j. ¬ HasUniqueKeys j)
IsCauseOf read j (Wrong path problem) = IsSomeAnd j (λ j. HasUniqueKeys j × HasFault (Wrong path problem) (read j))
