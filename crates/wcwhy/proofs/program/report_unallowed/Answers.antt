use Rattle.std.proofs.Common.{Bool, refl, string_bytes, subst, sym}
use Rattle.wc_program.specs.Screen.{Becomes}
use Rattle.wcwhy.specs.Program.{IsUnallowedSaid}
use Rattle.wcwhy.proofs.program.report_unallowed.Goals as goal

pub returns-then-json : goal.returns-then-json
returns-then-json g c =
    let err = Becomes g.E.Screen.ends c.args.err.now c.report_json.new.err in
    subst (λ (b : Bool). IsUnallowedSaid b c.args.warnings.now (string_bytes c.args.text) err c.report_json.result) (sym c.if-json.true)
    (c.args.text, refl, c.report_json.ensures)
