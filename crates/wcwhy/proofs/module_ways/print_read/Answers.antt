use Rattle.std.proofs.Common.{◌≡◌, IfOk, None, Some, rules, subst, sym}
use Rattle.wc_program.specs.Screen.{Becomes, output_ends}
use Rattle.wcwhy.specs.Arguments.{command_view}
use Rattle.wcwhy.specs.Private.Execution.{PrintsSome}
use Rattle.wcwhy.specs.Private.Inputs.{allow_in, allow_view}
use Rattle.wcwhy.specs.Private.ModuleWays.{AreAnswered}
use Rattle.wcwhy.specs.Private.Warnings.{said_view}
use Rattle.wcwhy.proofs.ModuleWayLemmas.{ways_known}
use Rattle.wcwhy.proofs.module_ways.print_read.Goals as goal

pub returns-in-Some-clause-done : goal.returns-in-Some-clause-done
returns-in-Some-clause-done g c w v =
    let command = command_view c.args.request.now.command.now in
    let out = Becomes (output_ends g.O.Sink.written g.O.Output.sent g.O.Sink.is_failed) c.args.out.now c.print_judged.new.out in
    let is : allow_in c.args.request.now ≡ Some (allow_view c.in-Some.allow) = search rules in
    subst (λ a. IfOk c.print_judged.result (λ said. PrintsSome (AreAnswered command w a (said_view said)) out)) (sym is) (c.print_judged.ensures.done w v)

pub returns-in-Some-clause-fault : goal.returns-in-Some-clause-fault
returns-in-Some-clause-fault g c w v =
    let command = command_view c.args.request.now.command.now in
    let out = Becomes (output_ends g.O.Sink.written g.O.Output.sent g.O.Sink.is_failed) c.args.out.now c.print_judged.new.out in
    ways_known command w out c.print_judged.result (c.print_judged.ensures.fault w v)

pub returns-in-None-clause-done : goal.returns-in-None-clause-done
returns-in-None-clause-done g c w v =
    let command = command_view c.args.request.now.command.now in
    let out = Becomes (output_ends g.O.Sink.written g.O.Output.sent g.O.Sink.is_failed) c.args.out.now c.print_some.new.out in
    let is : allow_in c.args.request.now ≡ None = search rules in
    subst (λ a. IfOk c.print_some.result (λ said. PrintsSome (AreAnswered command w a (said_view said)) out)) (sym is) (c.print_some.ensures.done w v)
