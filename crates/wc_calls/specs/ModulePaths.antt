-- What the call that answers the paths to the imports of a module answers.
use Rattle.std.specs.Prelude.{◌≡◌, ℕ, List, None, Option, false, map}
use Rattle.std.specs.List.{All}
use Rattle.std.specs.Str.{IsUtf8}
use Rattle.wc_gc.specs.declared.fault.GcFault.{GcFault}
use Rattle.wc_gc.specs.declared.trim_place.TrimPlace.{TrimPlace}
use Rattle.wc_import_paths.specs.Following.{IsRefusal}
use Rattle.wc_import_paths.specs.JsonPaths.{IsPathsText}
use Rattle.wc_import_paths.specs.Patterns.{pattern_of}
use Rattle.wc_record.specs.Places.{trim_place_json}
use Rattle.wc_calls.specs.MemoryFaults.{gc_is_memory}
use Rattle.wc_calls.specs.Places.{place_text}
use Rattle.wc_calls.specs.Trimming.{IsPosition, IsTrimFaultAnswer}
use Rattle.wc_calls.specs.declared.answers.Answer.{Answer}

-- names of exports, and what asks for imports, are texts
abbrev pub ArePathArguments : List (List ℕ) → List (List ℕ) → Type 0
ArePathArguments exports imports = All IsUtf8 exports × All IsUtf8 imports

-- the text is that of the paths from these exports to the imports that these texts ask for, as JSON
abbrev pub IsPathsAnswer : List ℕ → List (List ℕ) → List (List ℕ) → List ℕ → Type 0
IsPathsAnswer wasm exports imports text = IsPathsText wasm exports (map pattern_of imports) text

-- the answer is a fault that there are no paths, with its cause and what it is about. It neither is nor carries a Memory; the
-- position is that of its name
abbrev pub IsPathsFault : List ℕ → List (List ℕ) → Answer → List ℕ → List ℕ → Type 0
IsPathsFault wasm exports answer old new =
    (f : GcFault) × (place : Option TrimPlace) × IsRefusal wasm exports f place × (gc_is_memory f ≡ false) × IsPosition exports f answer.position
    × IsTrimFaultAnswer exports f (place_text (trim_place_json None) place) answer old new
