-- What is put to a sink.
use Rattle.std.specs.Prelude.{◌≡◌, ℕ, Bool, true, false, List, Option, Result, Ok, Err}
use Rattle.std.specs.Io.KnownBytes.{Appends}

-- a text was put to a sink that was not failed and is not; or else the sink is failed
abbrev pub Puts : {S T E : Type 0} → (S → Option (List ℕ)) → (S → Bool) → S → S → List ℕ → Result T E → Type 0
Puts written is_failed before after text (Ok x) = Appends (written before) (written after) text × (is_failed before ≡ false) × (is_failed after ≡ false)
Puts written is_failed before after text (Err e) = is_failed after ≡ true

-- a text, which may be empty, was put to a sink that is failed now if it was before; or else the sink is failed
abbrev pub PutsAny : {S T E : Type 0} → (S → Option (List ℕ)) → (S → Bool) → S → S → List ℕ → Result T E → Type 0
PutsAny written is_failed before after text (Ok x) = Appends (written before) (written after) text × (is_failed after ≡ is_failed before)
PutsAny written is_failed before after text (Err e) = is_failed after ≡ true

-- a text was put to a sink that was not failed and is not
abbrev pub IsPutTo : {S : Type 0} → (S → Option (List ℕ)) → (S → Bool) → S → List ℕ → S → Type 0
IsPutTo written is_failed before text after = Appends (written before) (written after) text × (is_failed before ≡ false) × (is_failed after ≡ false)
