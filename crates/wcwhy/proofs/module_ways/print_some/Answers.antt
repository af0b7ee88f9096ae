use Rattle.std.proofs.Common.{refl, true}
use Rattle.wc_module_ways.specs.Modules.{imports_of}
use Rattle.wc_program.specs.Screen.{Becomes, output_ends}
use Rattle.wcwhy.specs.Arguments.{command_view}
use Rattle.wcwhy.specs.ModuleWays.{AreWayNames, IsShown}
use Rattle.wcwhy.proofs.ModuleWayLemmas.{unknown_cause, ways_known}
use Rattle.wcwhy.proofs.ShownLemmas.{plain_answer}
use Rattle.wcwhy.proofs.module_ways.print_some.Goals as goal

pub returns-in-Ok-clause-done : goal.returns-in-Ok-clause-done
returns-in-Ok-clause-done g c w v =
    let command = command_view c.args.request.now.command.now in
    let out = Becomes (output_ends g.O.Sink.written g.O.Output.sent g.O.Sink.is_failed) c.args.out.now c.print_asked.new.out in
    plain_answer command true (IsShown command w) out (imports_of w) (AreWayNames w) c.in-Ok.asked c.in-Ok.ensures.asked (c.in-Ok.ensures.known w v)
    c.print_asked.result c.print_asked.ensures.said (c.print_asked.ensures.done w v)

pub returns-in-Ok-clause-fault : goal.returns-in-Ok-clause-fault
returns-in-Ok-clause-fault g c w v =
    let command = command_view c.args.request.now.command.now in
    let out = Becomes (output_ends g.O.Sink.written g.O.Output.sent g.O.Sink.is_failed) c.args.out.now c.print_asked.new.out in
    ways_known command w out c.print_asked.result (c.print_asked.ensures.fault w v)

pub returns-in-Err-clause-fault : goal.returns-in-Err-clause-fault
returns-in-Err-clause-fault g c w v =
    let command = command_view c.args.request.now.command.now in
    let out = Becomes (output_ends g.O.Sink.written g.O.Output.sent g.O.Sink.is_failed) c.args.out.now c.args.out.now in
    unknown_cause command w out (imports_of w) c.in-Err.fault refl refl (c.in-Err.ensures.fault w v)
