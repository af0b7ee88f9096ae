-- What parts of a run of a command do.
use Rattle.std.specs.Prelude.{◌≡◌, ◌⊎◌, ⊤, ℕ, false, List, length, Option, string_bytes}
use Rattle.std.specs.Option.{option_map}
use Rattle.wc_read.specs.Imports.{ImportValue}
use Rattle.wc_read.specs.Modules.{module_value}
use Rattle.wc_program.specs.Screen.{Printing, nothing, printed, failed}
use Rattle.wc_options.specs.Wrong.{help, version, wrong, wrong_view}
use Rattle.wc_import_paths.specs.Patterns.{PatternView, pattern_view}
use Rattle.wcwhy.specs.Arguments.{CommandView}
use Rattle.wcwhy.specs.Fault.{near_text}
use Rattle.wcwhy.specs.Inputs.{AllowView}
use Rattle.wcwhy.specs.ModuleWays.{IsNoImport}
use Rattle.wcwhy.specs.Functions.{IsFunctionFault}
use Rattle.wcwhy.specs.Program.{AreImportNames, EndsWithoutMemory, IsSourceText, StopEnds}
use Rattle.wcwhy.specs.Shown.{IsAnswer}
use Rattle.wcwhy.specs.Warnings.{Saying}
use Rattle.wc_import_paths.specs.Followed.{followed_view}
use Rattle.wc_import_paths.specs.declared.followed.Followed.{Followed}
use Rattle.wc_import_paths.specs.declared.patterns.ImportPattern.{ImportPattern}
use Rattle.wc_options.specs.declared.wrong.NoCommand.{NoCommand}
use Rattle.wc_options.specs.declared.wrong.NoCommand.TheVariants.{Memory, Help, Version, Wrong}
use Rattle.wcwhy.specs.declared.fault.WhyFault.{WhyFault}
use Rattle.wcwhy.specs.declared.fault.WhyFault.TheVariants.{Memory as why_memory, NoImport, Output}

-- what is printed where there is no command; there may have been no memory for it
abbrev pub AnswersStop : NoCommand → (Printing → Type 0) → (Printing → Type 0) → ℕ → Type 0
AnswersStop Memory out err status = EndsWithoutMemory out err status
AnswersStop Help out err status = StopEnds help out err status
AnswersStop Version out err status = StopEnds version out err status
AnswersStop (Wrong w) out err status = StopEnds (wrong (wrong_view w)) out err status ⊎ EndsWithoutMemory out err status

-- what is printed of a module that is followed, and what is said besides
abbrev pub IsSourceAnswer : CommandView → Followed → Option AllowView → Saying → List ℕ → Type 0
IsSourceAnswer c f allow said text =
    IsAnswer c false (IsSourceText c (followed_view f) f.bytes.now) (module_value f.code).imports (AreImportNames (module_value f.code).imports) allow said text

-- why it could not be printed
abbrev pub IsFollowedCause : CommandView → Followed → (Printing → Type 0) → WhyFault → Type 0
IsFollowedCause c f out why_memory = ⊤
IsFollowedCause c f out Output = out failed
IsFollowedCause c f out (NoImport p near) = IsNoImport (module_value f.code).imports c.imports p near × out nothing
IsFollowedCause c f out fault = IsFunctionFault c f.bytes.now (length (module_value f.code).funcs) fault × out nothing

-- the fault for what an option asks for, of which none of these imports is
abbrev pub IsNoImportFault : List ImportValue → ImportPattern → WhyFault → Type 0
IsNoImportFault imports p why_memory = ⊤
IsNoImportFault imports p (NoImport q near) = (q ≡ p) × (option_map string_bytes near ≡ near_text imports (pattern_view p))
IsNoImportFault imports p f = ⊥

-- a text that is as `Is` says is printed
abbrev pub PrintsSome : (List ℕ → Type 0) → (Printing → Type 0) → Type 0
PrintsSome Is out = (text : List ℕ) × Is text × out (printed text)

-- why a tree could not be printed
abbrev pub IsTreeFault : (Printing → Type 0) → WhyFault → Type 0
IsTreeFault out why_memory = ⊤
IsTreeFault out Output = out failed
IsTreeFault out f = ⊥

-- none of these imports is one that an option asks for
abbrev pub IsUnknownOf : List ImportValue → List PatternView → WhyFault → Type 0
IsUnknownOf imports patterns why_memory = ⊤
IsUnknownOf imports patterns (NoImport p near) = IsNoImport imports patterns p near
IsUnknownOf imports patterns f = ⊥
