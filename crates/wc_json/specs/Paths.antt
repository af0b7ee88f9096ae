-- Paths of faults, from the whole text to a value: names of members after dots, indices and keys in brackets.
use Rattle.std.specs.Prelude.{◌≡◌, ℕ, Bool, not, ◌&&◌, ◌||◌, List, [], ◌∷◌, ◌++◌, ◌==◌, length, cond, if◌then◌else◌, decimal, ⊤, Result, Ok, Err, string_bytes}
use Rattle.std.specs.Char.{is_ascii_alphanumeric}
use Rattle.std.specs.List.{list_all}
use Rattle.wc_texts.specs.Escape.{quoted}
use Rattle.wc_json.specs.Fault.{Fault, Reading}
use Rattle.wc_json.specs.declared.fault.JsonFault.{JsonFault}
use Rattle.wc_json.specs.declared.fault.JsonFault.TheVariants.{Memory, Wrong}

-- a path with a step before it; 91 is `[` and 46 is the dot
abbrev pub join : List ℕ → List ℕ → List ℕ
join step [] = step ++ []
join step (c ∷ path) = cond (c == 91) (step ++ (c ∷ path)) (step ++ (46 ∷ (c ∷ path)))

-- `[3]`
abbrev pub index_step : ℕ → List ℕ
index_step index = 91 ∷ (decimal index ++ (93 ∷ []))

-- `["key"]`, with the key escaped, its quotes too
abbrev pub key_step : List ℕ → List ℕ
key_step key = 91 ∷ (quoted key ++ (93 ∷ []))

-- a letter, digit, `-` or `_` of ASCII
abbrev pub is_word_char : ℕ → Bool
is_word_char c = is_ascii_alphanumeric c || c == 45 || c == 95

-- one such character or more
unfoldable pub is_word : List ℕ → Bool
is_word name = not (length name == 0) && list_all is_word_char name

-- the name of an only member; in brackets, where it is no word
unfoldable pub variant_step : List ℕ → List ℕ
variant_step name = if is_word name then name else key_step name

abbrev pub fault_at : List ℕ → Fault → Fault
fault_at step fault = record { path = join step fault.path; problem = fault.problem }

-- a reading of what is at this step
abbrev pub at_step : {A : Type 0} → List ℕ → Reading A → Reading A
at_step step (Ok a) = Ok a
at_step step (Err fault) = Err (fault_at step fault)

-- a fault is another one with a step before its path, or that memory ran out
abbrev pub IsFaultAt : List ℕ → JsonFault → JsonFault → Type 0
IsFaultAt step fault Memory = ⊤
IsFaultAt step (Wrong p a) (Wrong q b) = (string_bytes q ≡ join step (string_bytes p)) × (b ≡ a)
IsFaultAt step fault moved = moved ≡ fault

-- a result is that of reading what is at a step: the value, or the fault with this step before its path
abbrev pub IsReadAt : {A : Type 0} → List ℕ → Result A JsonFault → Result A JsonFault → Type 0
IsReadAt step (Ok x) (Ok y) = y ≡ x
IsReadAt step (Ok x) (Err f) = ⊥
IsReadAt step (Err e) (Ok y) = ⊥
IsReadAt step (Err e) (Err f) = IsFaultAt step e f
