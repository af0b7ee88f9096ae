use Rattle.std.proofs.Common.{List, inl, subst, ℕ}
use Rattle.wc_program.specs.Program.{Prints, failure}
use Rattle.wc_program.specs.Screen.{Becomes}
use Rattle.wcwhy.proofs.json_faults.report_json.Goals as goal

pub returns-in-Some : goal.returns-in-Some
returns-in-Some g c =
    inl (subst (λ (text : List ℕ). Prints text failure (Becomes g.E.Screen.ends c.args.err.now c.print.new.out) c.print.result) c.in-Some.ensures.whole
    c.print.ensures)
