use Rattle.std.proofs.Common.{◌∙◌, List, ℕ, inl, inr, refl, subst}
use Rattle.wc_program.specs.Program.{Prints, failure}
use Rattle.wc_program.specs.Screen.{Becomes}
use Rattle.wcplan.specs.JsonFaults.{fault_json, memory_json}
use Rattle.wcplan.proofs.json_faults.report_made.Goals as goal

pub returns-in-Ok : goal.returns-in-Ok
returns-in-Ok g c = (
  fault_json c.args.fault.now,
  inl refl,
  subst (λ (bytes : List ℕ). Prints bytes failure (Becomes g.E.Screen.ends c.args.err.now c.print_bytes.new.err) c.print_bytes.result)
      (c.deref.ensures.value ∙ c.in-Ok.ensures) c.print_bytes.ensures,
)

pub returns-in-Err : goal.returns-in-Err
returns-in-Err g c = (memory_json, inr (c.requires, refl), c.print_text.ensures)
