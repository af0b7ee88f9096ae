use Rattle.std.proofs.Common.{List, inl, inr, subst, ◌∙◌, ℕ}
use Rattle.wc_program.specs.Program.{Prints, failure}
use Rattle.wc_program.specs.Screen.{Becomes}
use Rattle.wcwhy.proofs.json_faults.report_made.Goals as goal

pub returns-in-Ok : goal.returns-in-Ok
returns-in-Ok g c =
    inl (subst (λ (bytes : List ℕ). Prints bytes failure (Becomes g.E.Screen.ends c.args.err.now c.print_bytes.new.err) c.print_bytes.result)
    (c.deref.ensures.value ∙ c.in-Ok.ensures) c.print_bytes.ensures)

pub returns-in-Err : goal.returns-in-Err
returns-in-Err g c = inr (c.requires, c.print_memory.ensures)
