use Rattle.std.proofs.Common.{◌∙◌, sym, true}
use Rattle.wc_program.specs.Screen.{Becomes, output_ends}
use Rattle.wcwhy.specs.Arguments.{command_view}
use Rattle.wcwhy.specs.ModuleWays.{IsShown}
use Rattle.wcwhy.proofs.ShownLemmas.{shows_some}
use Rattle.wcwhy.proofs.module_ways.print_patterns.Goals as goal

pub returns-in-Ok-clause-done : goal.returns-in-Ok-clause-done
returns-in-Ok-clause-done g c w v =
    let command = command_view c.args.request.now.command.now in
    let out = Becomes (output_ends g.O.Sink.written g.O.Output.sent g.O.Sink.is_failed) c.args.out.now c.print_shown.new.out in
    shows_some command true (IsShown command w) out c.args.patterns.now c.in-Ok.asked c.print_shown.result (sym c.is_empty.ensures ∙ c.if-is_empty.false) c.in-Ok.ensures
    (c.print_shown.ensures.done w v)
