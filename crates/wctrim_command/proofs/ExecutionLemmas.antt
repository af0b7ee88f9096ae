-- What was deduped, and the bytes that were written, along equations.
use Rattle.std.proofs.Common.{◌≡◌, ◌≢◌, ℕ, List, [], ◌∷◌, String, Global, Option, Some, None, Result, Ok, Err, OnOk, refl, subst, rules}
use Rattle.std.specs.Io.KnownBytes.{Appends}
use Rattle.wc_dedupe.specs.Renaming.{RenameView}
use Rattle.wc_gc.specs.LiveItems.{names_of, trim_input_for_names}
use Rattle.wc_texts.specs.Names.{first_occurrences}
use Rattle.wc_gc.specs.Parts.{SettingsView}
use Rattle.wc_gc.specs.TrimmedText.{IsTrimmed}
use Rattle.wc_dedupe.specs.Dedupe.{IsDeduped, renames_in}

pub dedupe_along : (input bytes out : List ℕ) (map : Option (List RenameView)) (renames : List RenameView) → out ≡ bytes → renames_in map ≡ renames → IsDeduped input bytes (renames_in map) → IsDeduped input out renames
dedupe_along input bytes out map renames same listed done = rw (same, ← listed) done

-- nothing was written
pub appends_nothing : (known : Option (List ℕ)) → Appends known known []
appends_nothing None = search rules
appends_nothing (Some xs) = search rules

-- what was trimmed, with the exports counted once
pub trim_along : (s : SettingsView) (input bytes : List ℕ) (names exports : List (List ℕ)) → names ≡ first_occurrences exports → IsTrimmed s (record { bytes = input; required = names }) bytes → IsTrimmed s (trim_input_for_names input exports) bytes
trim_along s input bytes names exports same done = subst (λ (ns : List (List ℕ)). IsTrimmed s (record { bytes = input; required = ns }) bytes) same done

-- where there is an export, it has a name
pub some_exports : (exports : List (String Global)) → exports ≢ [] → names_of exports ≢ []
some_exports [] some = λ e. some refl
some_exports (x ∷ exports) some = λ e. absurd cc

-- what follows of an answer, and of a fault

pub if_scanned : {T E : Type 0} (r : Result T E) (P Q : Type 0) → (P → Q) → OnOk r P → OnOk r Q
if_scanned (Ok x) P Q f h = f h
if_scanned (Err e) P Q f h = tt
