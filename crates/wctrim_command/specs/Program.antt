-- The program: what it prints, what becomes of files, and its exit status.
use Rattle.std.specs.Prelude.{◌≡◌, ◌≢◌, ℕ, ◌⊎◌, List, [], ◌++◌, codes, String, Option, Some, None}
use Rattle.std.specs.declared.alloc.Global.{Global}
use Rattle.wc_texts.specs.FaultTexts.{memory_text}
use Rattle.wc_program.specs.Files.{Held, Holds, Writes, KeepsOthers, FileChange}
use Rattle.wc_program.specs.Program.{success, failure, wrong_arguments, Prints, EndsByArguments, EndsByReason}
use Rattle.wc_program.specs.Screen.{Printing, nothing, printed, failed}
use Rattle.wc_program.specs.declared.files.FileProblem.{FileProblem}
use Rattle.wc_program.specs.declared.files.FileProblem.TheVariants.{Memory as read_memory}
use Rattle.wc_program.specs.declared.program.NoArguments.{NoArguments}
use Rattle.wc_program.specs.declared.program.NoArguments.TheVariants.{Empty, NoMemory, NoText}
use Rattle.wctrim_command.specs.Command.{CommandView, source_of, target_of, IsCommandLine}
use Rattle.wctrim_command.specs.Lines.{line_feed}
use Rattle.wctrim_command.specs.Execution.{IsCommandCause, Runs}
use Rattle.wctrim_command.specs.Fault.{command_fault_text}
use Rattle.wctrim_command.specs.declared.fault.ToolFault.{ToolFault}
use Rattle.wctrim_command.specs.declared.fault.ToolFault.TheVariants.{Memory, Output}
use Rattle.wctrim_command.specs.declared.program.RunFault.{RunFault}
use Rattle.wctrim_command.specs.declared.program.RunFault.TheVariants.{CannotRead, CannotWrite, Command}

-- the usage text
abbrev pub usage_text : List ℕ
usage_text = codes "usage: wctrim dedupe IN OUT\n       wctrim trim IN OUT [--realloc NAME] [--page 0|16] EXPORT...\n       wctrim scan IN\n"

-- the line that says why the program failed
abbrev pub fault_line : List ℕ → List ℕ
fault_line text = codes "wctrim: " ++ (text ++ line_feed)

-- the output file has the answer, where there are both, and each other file the bytes that it had
abbrev pub IsAnswered : Option (List ℕ) → Option (List ℕ) → Option Held → Option Held → Type 0
IsAnswered (Some target) (Some answer) before after = Writes before after target answer
IsAnswered (Some target) None before after = after ≡ before
IsAnswered None answer before after = after ≡ before

-- the command made these lines of the bytes of its input file, and the output file has its answer
pub record IsDone (c : CommandView) (before after : Option Held) (lines : List ℕ) : Type 0 where
  pub input : List ℕ
  pub answer : Option (List ℕ)
  pub read : Holds before (source_of c) input
  pub runs : Runs c input lines answer
  pub written : IsAnswered (target_of c) answer before after

-- the input file could not be read, for this problem other than memory
abbrev pub IsUnreadInput : CommandView → FileChange → FileProblem → Type 0
IsUnreadInput c files p = files.IsFailedRead (source_of c) p × (p ≢ read_memory)

-- the input file is too large for memory, and each file has the bytes that it had
abbrev pub IsTooLarge : CommandView → FileChange → ToolFault → Type 0
IsTooLarge c files f = (f ≡ Memory) × files.IsFailedRead (source_of c) read_memory × (files.after ≡ files.before)

-- the bytes of the input file were refused, and each file has the bytes that it had
pub record IsRefused (c : CommandView) (before after : Option Held) (f : ToolFault) : Type 0 where
  pub input : List ℕ
  pub read : Holds before (source_of c) input
  pub cause : IsCommandCause c input f
  pub kept : after ≡ before

-- after these lines the output file was to have the answer, and the write of this failed for this problem; each other file
-- has the bytes that it had
pub record IsUnwritten (c : CommandView) (files : FileChange) (lines target : List ℕ) (p : FileProblem) : Type 0 where
  pub input : List ℕ
  pub answer : List ℕ
  pub read : Holds files.before (source_of c) input
  pub runs : Runs c input lines (Some answer)
  pub is_target : target_of c ≡ Some target
  pub failed : files.IsFailedWrite target answer p
  pub others : KeepsOthers files.before files.after target

-- the cause of a fault of a command that was run on its files, after these lines
abbrev pub IsRunCause : CommandView → FileChange → List ℕ → RunFault → Type 0
IsRunCause c files lines (CannotRead path p) = (path.now ≡ source_of c) × (files.after ≡ files.before) × (lines ≡ []) × IsUnreadInput c files p
IsRunCause c files lines (Command f) = (IsRefused c files.before files.after f ⊎ IsTooLarge c files f) × (lines ≡ [])
IsRunCause c files lines (CannotWrite path p) = IsUnwritten c files lines path.now p

-- what was done with the output: it failed; or the lines were printed, and the file could not be written; or nothing was put
abbrev pub LeavesAfter : ToolFault → (Printing → Type 0) → Type 0
LeavesAfter Output out = out failed
LeavesAfter f out = out nothing

abbrev pub LeavesOutput : RunFault → List ℕ → (Printing → Type 0) → Type 0
LeavesOutput (Command f) lines out = LeavesAfter f out
LeavesOutput (CannotWrite path p) lines out = out (printed lines)
LeavesOutput (CannotRead path p) lines out = out nothing

-- a command that was run on its files has this fault
abbrev pub IsRunFault : CommandView → FileChange → (Printing → Type 0) → RunFault → Type 0
IsRunFault c files out f = (lines : List ℕ) × IsRunCause c files lines f × LeavesOutput f lines out

-- what is said of a fault: a file by its path alone, a command by the text of its fault
abbrev pub run_fault_text : RunFault → List ℕ
run_fault_text (CannotRead path p) = codes "cannot read " ++ path.now
run_fault_text (CannotWrite path p) = codes "cannot write " ++ path.now
run_fault_text (Command f) = command_fault_text f

-- the output failed
abbrev pub IsOutputFault : RunFault → Type 0
IsOutputFault (Command f) = f ≡ Output
IsOutputFault f = ⊥

-- why the command could not be run was printed after its lines, or the output failed
abbrev pub IsReported : (Printing → Type 0) → RunFault → List ℕ → Type 0
IsReported out fault lines = (¬ IsOutputFault fault × out (printed (lines ++ fault_line (run_fault_text fault)))) ⊎ out failed

-- the command did its work, and its lines were printed
abbrev pub EndsWell : CommandView → Option Held → Option Held → (Printing → Type 0) → Type 0
EndsWell c before after out = (lines : List ℕ) × IsDone c before after lines × out (printed lines)

-- the command could not be run, and why was printed, unless the output failed
abbrev pub EndsInFault : CommandView → FileChange → (Printing → Type 0) → Type 0
EndsInFault c files out = (fault : RunFault) × (lines : List ℕ) × IsRunCause c files lines fault × IsReported out fault lines

-- how a run of a command ends
abbrev pub CommandEnds : CommandView → FileChange → (Printing → Type 0) → ℕ → Type 0
CommandEnds c files out status =
    (EndsWell c files.before files.after out × (status ≡ success)) ⊎ (EndsInFault c files out × (status ≡ failure))

-- how the program ends with some arguments
abbrev pub EndsWith : List (List ℕ) → FileChange → (Printing → Type 0) → ℕ → Type 0
EndsWith arguments files out status =
    ((c : CommandView) × IsCommandLine arguments c × CommandEnds c files out status)
    ⊎ (((c : CommandView) → ¬ (IsCommandLine arguments c)) × (files.after ≡ files.before) × Prints usage_text wrong_arguments out status)

-- how it ends without arguments: there are none, there was no memory for them, or one is no text
abbrev pub EndsWithout : NoArguments → FileChange → (Printing → Type 0) → ℕ → Type 0
EndsWithout Empty files out status = (files.after ≡ files.before) × Prints usage_text success out status
EndsWithout NoMemory files out status = Prints (fault_line memory_text) failure out status
EndsWithout NoText files out status = Prints usage_text wrong_arguments out status

-- how the program ends with these arguments
abbrev pub ProgramEnds : List (String Global) → FileChange → (Printing → Type 0) → ℕ → Type 0
ProgramEnds arguments files out status = EndsByArguments arguments (EndsWithout Empty files out status) (λ texts. EndsWith texts files out status)

-- how the program ends where its arguments are not known: there was no memory for them, or they are no text
abbrev pub EndsWithoutArguments : Type 0 → (Printing → Type 0) → ℕ → Type 0
EndsWithoutArguments no_memory out status =
    EndsByReason no_memory (Prints (fault_line memory_text) failure out status) (Prints usage_text wrong_arguments out status)
