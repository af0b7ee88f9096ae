-- What becomes of an output.
use Rattle.std.specs.Prelude.{◌≡◌, ℕ, Bool, true, false, List, Option, Some, None}
use Rattle.std.specs.Io.KnownBytes.{Appends}

-- these bytes were put to an output, which handed on all its bytes
pub record HandsOn (written_before written_after sent_after : Option (List ℕ)) (bytes : List ℕ) : Type 0 where
  pub put : Appends written_before written_after bytes
  pub sent : Appends written_before sent_after bytes

-- an output, of which it is known what was written and sent, and whether it is failed, has printed this text and handed it
-- on, and was not failed and is not; or it is failed
abbrev pub output_ends : {S : Type 0} → (S → Option (List ℕ)) → (S → Option (List ℕ)) → (S → Bool) → S → S → Option (List ℕ) → Type 0
output_ends written sent is_failed before after (Some text) =
    HandsOn (written before) (written after) (sent after) text × (is_failed before ≡ false) × (is_failed after ≡ false)
output_ends written sent is_failed before after None = is_failed after ≡ true

-- what a program does with an output: nothing; it prints this text; or it tries to, and the output fails
pub data Printing : Type 0 where
  nothing : Printing
  printed : (text : List ℕ) → Printing
  failed : Printing

-- what is done with an output, of which calls are known by how they end
abbrev pub Becomes : {S : Type 0} → (S → S → Option (List ℕ) → Type 0) → S → S → Printing → Type 0
Becomes ends before after nothing = after ≡ before
Becomes ends before after (printed text) = ends before after (Some text)
Becomes ends before after failed = ends before after None
