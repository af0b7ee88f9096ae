-- What parts of a run of a command do.
use Rattle.std.specs.Prelude.{◌≡◌, ◌≢◌, ℕ, List, map, Option, Some, IfSome, String, string_bytes, ◌⊎◌}
use Rattle.std.specs.Borrow.{Bor}
use Rattle.std.specs.declared.alloc.Global.{Global}
use Rattle.wc_encoder.specs.EncoderParts.{EncoderView}
use Rattle.wc_program.specs.Files.{Held, StoreChange}
use Rattle.wc_program.specs.declared.files.FileProblem.{FileProblem}
use Rattle.wc_world.specs.Causes.{IsComponentWorldCause, IsMemory as IsWorldMemory}
use Rattle.wc_world.specs.Options.{plain_options}
use Rattle.wc_world.specs.Views.{ComponentWorldView}
use Rattle.wc_world.specs.World.{IsWorldOf}
use Rattle.wc_options.specs.Wrong.{help, version, wrong, wrong_view}
use Rattle.wcplan_inputs.specs.Arguments.{CommandView}
use Rattle.wcplan_inputs.specs.Details.{IsExplanation}
use Rattle.wcplan.specs.Program.{EndsWithoutMemory, IsUnwrittenFile, StopEnds, WritesAll, file_view}
use Rattle.wcplan_inputs.specs.Inputs.{IsEncoderOf}
use Rattle.wc_program.specs.Screen.{Printing, nothing, failed}
use Rattle.wc_options.specs.declared.wrong.NoCommand.{NoCommand}
use Rattle.wc_options.specs.declared.wrong.NoCommand.TheVariants.{Memory, Help, Version, Wrong}
use Rattle.wcplan_inputs.specs.declared.fault.ProgramFault.{ProgramFault}
use Rattle.wcplan_inputs.specs.declared.fault.ProgramFault.TheVariants.{CannotMake, CannotWrite, Output, Ways, World, Memory as no_memory}
use Rattle.wc_gc.specs.declared.fault.GcFault.TheVariants.{Memory as gc_memory}
use Rattle.wc_ways.specs.WaysFaults.{IsWaysFault}
use Rattle.wc_world.specs.declared.fault.WorldFault.TheVariants.{Memory as world_memory}

-- the component's world of a command, with plain options
pub record IsMadeFor (c : CommandView) (before : Option Held) (w : ComponentWorldView) : Type 0 where
  pub encoder : EncoderView
  pub encodes : IsEncoderOf c before encoder
  pub world : IsWorldOf plain_options encoder w

-- why there is no text that is printed of a component's world
abbrev pub IsDescriptionFault : ComponentWorldView → ProgramFault → Type 0
IsDescriptionFault w no_memory = Unit {0}
IsDescriptionFault w (Ways f) = (f ≢ gc_memory) × IsWaysFault w f
IsDescriptionFault w f = ⊥

-- a directory could not be made
abbrev pub IsMakingFault : Option (List ℕ) → (List ℕ → FileProblem → Type 0) → ProgramFault → Type 0
IsMakingFault directory fails (CannotMake path p) = (directory ≡ Some path.now) × fails path.now p
IsMakingFault directory fails f = ⊥

-- why a directory could not be made, or a file in it not written; or why nothing could be printed after that
abbrev pub IsWritingFault : Option (List ℕ) → StoreChange → List (String Global × Bor (List ℕ)) → (Printing → Type 0) → ProgramFault → Type 0
IsWritingFault directory change files out (CannotMake path p) =
    (directory ≡ Some path.now) × change.IsFailedMake path.now p × (change.after ≡ change.before) × out nothing
IsWritingFault directory change files out (CannotWrite path p) =
    IfSome directory change.Makes
    × IsUnwrittenFile change.before change.after change.IsFailedWrite (map file_view files) (string_bytes path) p × out nothing
IsWritingFault directory change files out Output =
    IfSome directory change.Makes × WritesAll change.before change.after (map file_view files) × out failed
IsWritingFault directory change files out f = ⊥

-- what is printed where there is no command; there may have been no memory for it
abbrev pub AnswersStop : NoCommand → (Printing → Type 0) → (Printing → Type 0) → ℕ → Type 0
AnswersStop Memory out err status = EndsWithoutMemory out err status
AnswersStop Help out err status = StopEnds help out err status
AnswersStop Version out err status = StopEnds version out err status
AnswersStop (Wrong w) out err status = StopEnds (wrong (wrong_view w)) out err status ⊎ EndsWithoutMemory out err status

-- why an encoder has no component's world, with what that is about
abbrev pub IsWorldFault : EncoderView → ProgramFault → Type 0
IsWorldFault e no_memory = Unit {0}
IsWorldFault e (World x) =
    (x.fault ≢ world_memory) × (IsWorldMemory e x.fault ⊎ IsComponentWorldCause e x.fault) × IsExplanation e x.fault x.place
IsWorldFault e f = ⊥
