-- What is said beside an answer: warnings, and what is imported and not allowed.
use Rattle.std.specs.Prelude.{◌≡◌, ◌≢◌, ◌⊎◌, ◌==◌, ℕ, List, [], ◌∷◌, ◌++◌, length, map, codes, decimal, Option, Some, None, if◌then◌else◌}
use Rattle.std.specs.List.{flat_map}
use Rattle.wc_import_paths.specs.Patterns.{PatternView}
use Rattle.wc_program.specs.Screen.{Printing, nothing, printed, failed}
use Rattle.wcwhy.specs.Allowed.{EntryView, entries_of, not_allowed_text, unallowed, unused, warning_text}
use Rattle.wcwhy.specs.Inputs.{AllowView}

-- what is said: the lines of warnings; and the text that says what is not allowed, where something is imported that is not
pub record Saying : Type 0 where
  pub warnings : List ℕ
  pub unallowed : Option (List ℕ)

abbrev pub quiet : Saying
quiet = record { warnings = []; unallowed = None }

-- a warning in a line
abbrev pub warning_line : List ℕ → List ℕ
warning_line text = codes "wcwhy: warning: " ++ (text ++ codes "\n")

-- so many components inside a component have core modules, which are not followed

abbrev pub several_line : ℕ → List ℕ
several_line count = codes "wcwhy: warning: " ++ (decimal count ++ codes " components inside with core modules are not followed\n")

abbrev pub inside_warning : ℕ → List ℕ
inside_warning count =
    if count == 0 then []
    else if count == 1 then warning_line (codes "1 component inside with core modules is not followed")
    else several_line count

-- that is said first
abbrev pub with_inside : ℕ → Saying → Saying
with_inside count s = record { warnings = inside_warning count ++ s.warnings; unallowed = s.unallowed }

-- an entry of the file of a path allows nothing
abbrev pub unused_warning : List ℕ → EntryView → List ℕ
unused_warning path entry = warning_line (warning_text path entry)

-- of the names of modules from which something is imported those that a file does not allow
abbrev pub refused_modules : AllowView → List (List ℕ) → List (List ℕ)
refused_modules a names = unallowed (entries_of a.text) names

-- what asks for all that is imported from a module
abbrev pub whole_module : List ℕ → PatternView
whole_module name = (name, None)

abbrev pub refused_patterns : AllowView → List (List ℕ) → List PatternView
refused_patterns a names = map whole_module (refused_modules a names)

-- that they are not allowed, if there are any
abbrev pub refused_text : List (List ℕ) → Option (List ℕ)
refused_text [] = None
refused_text (name ∷ names) = Some (not_allowed_text (name ∷ names))

-- what a file of what is allowed says of imports from modules of these names
abbrev pub said_by : AllowView → List (List ℕ) → Saying
said_by a names = record {
  warnings = flat_map (unused_warning a.path) (unused (entries_of a.text) names);
  unallowed = refused_text (refused_modules a names);
}

-- warnings are printed, or the output fails; nothing is, if there are none
abbrev pub AreWarned : List ℕ → (Printing → Type 0) → Type 0
AreWarned warnings err =
    ((length warnings ≢ 0) × (err (printed warnings) ⊎ err failed)) ⊎ ((length warnings ≡ 0) × err nothing)
