-- Memory that runs out only while the path of a fault is made.
use Rattle.std.proofs.Common.{◌≡◌, ◌≢◌, ℕ, List, [], ◌∷◌, ◌++◌, Bool, true, false, cond, if◌then◌else◌, Result, Ok, Err, refl, sym, subst}
use Rattle.wc_json.specs.Fault.{IsFaultBelow, NeedsMemoryForPaths, NeedsNoMemory, Reading, Reads, ◌>>=◌}
use Rattle.wc_json.specs.Paths.{IsReadAt, at_step, is_word, join, key_step, variant_step}
use Rattle.wc_json.specs.declared.fault.JsonFault.{JsonFault}
use Rattle.wc_json.specs.declared.fault.JsonFault.TheVariants.{Memory, NotJson, RepeatedMember, Wrong}

append_nonempty : (step more : List ℕ) → step ≢ [] → step ++ more ≢ []
append_nonempty [] more h = absurd (h refl)
append_nonempty (c ∷ step) more h = λ (e : c ∷ (step ++ more) ≡ []). cc e

both_nonempty : (b : Bool) (x y : List ℕ) → x ≢ [] → y ≢ [] → cond b x y ≢ []
both_nonempty true x y h k = h
both_nonempty false x y h k = k

-- a path with a step before it has a step
join_nonempty : (step path : List ℕ) → step ≢ [] → join step path ≢ []
join_nonempty step [] h = append_nonempty step [] h
join_nonempty step (c ∷ path) h = both_nonempty _ _ _ (append_nonempty step (c ∷ path) h) (append_nonempty step (46 ∷ (c ∷ path)) h)

key_nonempty : (name : List ℕ) → key_step name ≢ []
key_nonempty name = λ (e : key_step name ≡ []). cc e

word_nonempty : (name : List ℕ) → is_word name ≡ true → name ≢ []
unfolding is_word
word_nonempty [] h = let bad : ⊥ = cc h in absurd bad
word_nonempty (c ∷ name) h = λ (e : c ∷ name ≡ []). cc e

choice_nonempty : (b : Bool) (x y : List ℕ) → (b ≡ true → x ≢ []) → y ≢ [] → (if b then x else y) ≢ []
choice_nonempty true x y h k = h refl
choice_nonempty false x y h k = k

variant_nonempty : (name : List ℕ) → variant_step name ≢ []
unfolding variant_step
variant_nonempty name = choice_nonempty (is_word name) name (key_step name) (word_nonempty name) (key_nonempty name)

-- what needs no memory, read at a step, needs memory for a path alone
read_at : {A B : Type 0} (view : A → B) (step : List ℕ) (read result : Result A JsonFault) (reading : Reading B) → step ≢ []
    → IsReadAt step read result → Reads view read reading → NeedsNoMemory read → NeedsMemoryForPaths result (at_step step reading)
read_at view step read (Ok y) reading some e h no_memory = tt
read_at view step (Ok x) (Err f) reading some e h no_memory = absurd e
read_at view step (Err g) (Err f) (Err fault) some e h no_memory = λ _. join_nonempty step fault.path some
read_at view step (Err Memory) (Err f) (Ok b) some e h no_memory = absurd (no_memory refl)
read_at view step (Err NotJson) (Err f) (Ok b) some e h no_memory = absurd h
read_at view step (Err RepeatedMember) (Err f) (Ok b) some e h no_memory = absurd h
read_at view step (Err (Wrong p a)) (Err f) (Ok b) some e h no_memory = absurd h

pub read_at_variant : {A B : Type 0} (view : A → B) (name : List ℕ) (read result : Result A JsonFault) (whole reading : Reading B)
    → whole ≡ at_step (variant_step name) reading → IsReadAt (variant_step name) read result → Reads view read reading → NeedsNoMemory read
    → NeedsMemoryForPaths result whole
read_at_variant view name read result whole reading same e h no_memory =
    subst (NeedsMemoryForPaths result) (sym same) (read_at view (variant_step name) read result reading (variant_nonempty name) e h no_memory)

below_bind : {A B : Type 0} (reading : Reading A) (next : A → Reading B) → IsFaultBelow reading → IsFaultBelow (reading >>= next)
below_bind (Ok a) next h = absurd h
below_bind (Err f) next h = h

-- the fault of what is read there is passed on
pub fault_at_variant : {A B C : Type 0} (view : A → B) (name : List ℕ) (read : Result A JsonFault) (fault : JsonFault) (whole : Reading C) (reading : Reading B)
    (next : B → Reading C) → whole ≡ at_step (variant_step name) reading >>= next → IsReadAt (variant_step name) read (Err fault) → Reads view read reading
    → NeedsNoMemory read → fault ≡ Memory → IsFaultBelow whole
fault_at_variant {A} {B} {C} view name read fault whole reading next same e h no_memory is =
    let below = read_at view (variant_step name) read (Err fault) reading (variant_nonempty name) e h no_memory in
    subst IsFaultBelow (sym same) (below_bind (at_step (variant_step name) reading) next (below is))
