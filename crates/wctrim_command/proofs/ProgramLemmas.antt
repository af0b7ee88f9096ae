-- A command that could not be run, which was printed.
use Rattle.std.proofs.Common.{◌≡◌, ◌≢◌, ℕ, Bool, List, [], ◌++◌, Option, Some, refl, sym, ◌∙◌, subst, inl, inr}
use Rattle.std.proofs.lemmas.Bool.{false≢true}
use Rattle.wc_program.specs.Files.{FileChange}
use Rattle.wc_program.specs.Program.{Prints, failure}
use Rattle.wc_program.specs.Screen.{Becomes, Printing, nothing, output_ends}
use Rattle.wc_program.specs.declared.files.FileProblem.TheVariants.{Memory as read_memory}
use Rattle.wc_program.proofs.ScreenLemmas.{hands_on_more}
use Rattle.wctrim_command.specs.Command.{CommandView, source_of}
use Rattle.wctrim_command.specs.Program.{EndsInFault, IsReported, IsRunCause, IsRunFault, LeavesAfter, LeavesOutput, fault_line, run_fault_text}
use Rattle.wctrim_command.specs.Fault.{command_fault_text}
use Rattle.wctrim_command.specs.declared.fault.ToolFault.{ToolFault}
use Rattle.wctrim_command.specs.declared.fault.ToolFault.TheVariants.{Memory, Output}
use Rattle.wctrim_command.specs.declared.program.RunFault.{RunFault}
use Rattle.wctrim_command.specs.declared.program.RunFault.TheVariants.{CannotRead, CannotWrite, Command}

module _ {S : Type 0} (c : CommandView) (files : FileChange) (written sent : S → Option (List ℕ)) (is_failed : S → Bool) (before middle after : S) where
  abbrev Ends : S → S → Option (List ℕ) → Type 0
  Ends = output_ends written sent is_failed

  -- what is printed after nothing
  after_nothing : (lines line : List ℕ) → lines ≡ [] → middle ≡ before → Ends middle after (Some line) → Ends before after (Some (lines ++ line))
  after_nothing lines line none same shown = rw none (subst (λ s. Ends s after (Some line)) same shown)

  -- a fault of a command that is printed
  command_reported : (f : ToolFault) → LeavesAfter f (Becomes Ends before middle)
      → Ends middle after (Some (fault_line (command_fault_text f))) → IsReported (Becomes Ends before after) (Command f) []
  command_reported Output left shown = absurd (false≢true (sym shown.1 ∙ left))
  command_reported f left shown = inl ((λ e. absurd cc), after_nothing [] _ refl left shown)

  -- a fault that is printed after the lines of its command
  reported : (lines : List ℕ) (fault : RunFault) → IsRunCause c files lines fault → LeavesOutput fault lines (Becomes Ends before middle)
      → Ends middle after (Some (fault_line (run_fault_text fault))) → IsReported (Becomes Ends before after) fault lines
  reported lines (Command f) cause left shown = subst (IsReported (Becomes Ends before after) (Command f)) (sym cause.1) (command_reported f left shown)
  reported lines (CannotRead path p) cause left shown = inl ((λ e. e), after_nothing lines _ cause.2 left shown)
  reported lines (CannotWrite path p) cause left shown =
      inl ((λ e. e), (hands_on_more (written before) (written middle) (written after) (sent after) lines _ left.0.put shown.0, left.1, shown.2))

  pub ends_in_fault : (fault : RunFault) (status : ℕ) → IsRunFault c files (Becomes Ends before middle) fault
      → Prints (fault_line (run_fault_text fault)) failure (Becomes Ends middle after) status
      → EndsInFault c files (Becomes Ends before after) × (status ≡ failure)
  ends_in_fault fault status h (inl shown) = ((fault, h.0, h.1, reported h.0 fault h.1 h.2 shown.0), shown.1)
  ends_in_fault fault status h (inr lost) = ((fault, h.0, h.1, inr lost.0), lost.1)

-- a file that is too large for memory
pub too_large : (c : CommandView) (files : FileChange) (out : Printing → Type 0) → files.IsFailedRead (source_of c) read_memory
    → files.after ≡ files.before → out nothing → IsRunFault c files out (Command Memory)
too_large c files out failed_read kept still = ([], (inr (refl, failed_read, kept), refl), still)
