use Rattle.std.proofs.Common.{Bool, List, OnOk, subst, sym, ℕ}
use Rattle.wc_program.specs.Screen.{Becomes, output_ends}
use Rattle.wcwhy.specs.Arguments.{command_view}
use Rattle.wcwhy.specs.ModuleWays.{IsShownBy}
use Rattle.wcwhy.specs.Private.Execution.{PrintsSome}
use Rattle.wcwhy.proofs.ModuleWayLemmas.{ways_shown}
use Rattle.wcwhy.proofs.module_ways.print_shown.Goals as goal

pub returns-then-command-clause-done : goal.returns-then-command-clause-done
returns-then-command-clause-done g c w v =
    let view = command_view c.args.command.now in
    let out = Becomes (output_ends g.O.Sink.written g.O.Output.sent g.O.Sink.is_failed) c.args.out.now c.print_summary.new.out in
    subst (λ (b : Bool). OnOk c.print_summary.result (PrintsSome (λ (text : List ℕ). IsShownBy b view w c.args.asked.now text) out)) (sym c.if-command.true)
    (c.print_summary.ensures.done w v)

pub returns-then-command-clause-fault : goal.returns-then-command-clause-fault
returns-then-command-clause-fault g c w v =
    let out = Becomes (output_ends g.O.Sink.written g.O.Output.sent g.O.Sink.is_failed) c.args.out.now c.print_summary.new.out in
    ways_shown (command_view c.args.command.now) w out c.print_summary.result (c.print_summary.ensures.fault w v)

pub returns-else-command-clause-done : goal.returns-else-command-clause-done
returns-else-command-clause-done g c w v =
    let view = command_view c.args.command.now in
    let out = Becomes (output_ends g.O.Sink.written g.O.Output.sent g.O.Sink.is_failed) c.args.out.now c.print_ways.new.out in
    subst (λ (b : Bool). OnOk c.print_ways.result (PrintsSome (λ (text : List ℕ). IsShownBy b view w c.args.asked.now text) out)) (sym c.if-command.false)
    (c.print_ways.ensures.done w v)
