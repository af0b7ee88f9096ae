-- What the call that renames repeated imports answers.
use Rattle.std.specs.Prelude.{◌≡◌, ◌≢◌, ℕ, List, [], ◌++◌, length, false, None, Option}
use Rattle.wc_dedupe.specs.Renaming.{RenameView}
use Rattle.wc_dedupe.specs.Dedupe.{IsDeduped, IsDedupeCause, IsDedupePlace}
use Rattle.wc_dedupe.specs.declared.fault.DedupeFault.{DedupeFault}
use Rattle.wc_dedupe.specs.Fault.{dedupe_fault_number}
use Rattle.wc_read.specs.declared.place.ReadPlace.{ReadPlace}
use Rattle.wc_record.specs.Places.{bytes_json}
use Rattle.wc_calls.specs.Answers.{IsFaultPut}
use Rattle.wc_calls.specs.MemoryFaults.{dedupe_is_memory}
use Rattle.wc_calls.specs.Places.{place_text}
use Rattle.wc_calls.specs.declared.answers.Answer.{Answer}
use Rattle.wc_calls.specs.Renames.{renames_text}

-- the text has the module with its imports renamed, so many bytes of it, and then the renames, one at least
abbrev pub IsRenamed : List ℕ → ℕ → List ℕ → Type 0
IsRenamed wasm module_length text =
    (renamed : List ℕ) × (renames : List RenameView) × IsDeduped wasm renamed renames
    × (renames ≢ []) × (module_length ≡ length renamed) × (text ≡ renamed ++ renames_text renames)

-- the answer is a fault that has its cause, and neither is nor carries a Memory, with the byte at which the module stops to be
-- right, if it does
abbrev pub IsRenamingFault : List ℕ → Answer → List ℕ → List ℕ → Type 0
IsRenamingFault wasm answer old new =
    (f : DedupeFault) × IsDedupeCause wasm f × (dedupe_is_memory f ≡ false) × (place : Option ReadPlace) × IsDedupePlace wasm f place
    × IsFaultPut (dedupe_fault_number f) 0 (place_text (bytes_json None) place) answer old new
