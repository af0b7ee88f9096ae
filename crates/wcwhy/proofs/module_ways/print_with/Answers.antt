use Rattle.std.proofs.Common.{All, OnOk, map, refl, subst}
use Rattle.wc_module_ways.specs.Adapters.{adapter_view}
use Rattle.wc_module_ways.specs.Refusals.{HasNoCause}
use Rattle.wc_program.specs.Screen.{Becomes, output_ends}
use Rattle.wc_why.specs.Tree.{tree_caller_view, tree_view}
use Rattle.wcwhy.specs.Arguments.{command_view}
use Rattle.wcwhy.specs.Private.Execution.{PrintsSome}
use Rattle.wcwhy.specs.Tree.{IsTextBy}
use Rattle.wcwhy.proofs.ModuleWayLemmas.{tree_failed, tree_printed, ways_cause}
use Rattle.wcwhy.proofs.module_ways.print_with.Goals as goal

pub returns-in-Ok-clause-done : goal.returns-in-Ok-clause-done
returns-in-Ok-clause-done g c w v are =
    let out = Becomes (output_ends g.O.Sink.written g.O.Output.sent g.O.Sink.is_failed) c.args.out.now c.print_tree.new.out in
    tree_printed (command_view c.args.command.now) w c.args.asked.now (map tree_caller_view c.args.ends.1.now) (tree_view c.in-Ok.tree) out c.print_tree.result
    (subst (All HasNoCause) v.adapters c.in-Ok.ensures.no_cause) are
    (c.in-Ok.ensures.tree w v)
    (subst (λ form. OnOk c.print_tree.result (PrintsSome (IsTextBy form.dot form.json form.of_component (tree_view c.in-Ok.tree)) out)) c.form_of.ensures
    c.print_tree.ensures.done)

pub returns-in-Ok-clause-fault : goal.returns-in-Ok-clause-fault
returns-in-Ok-clause-fault g c w v =
    let out = Becomes (output_ends g.O.Sink.written g.O.Output.sent g.O.Sink.is_failed) c.args.out.now c.print_tree.new.out in
    tree_failed w out c.print_tree.result c.print_tree.ensures.fault

pub returns-in-Err-clause-fault : goal.returns-in-Err-clause-fault
returns-in-Err-clause-fault g c w v =
    let out = Becomes (output_ends g.O.Sink.written g.O.Output.sent g.O.Sink.is_failed) c.args.out.now c.args.out.now in
    ways_cause w out refl (map adapter_view c.args.ends.0.now.adapters.items) v.adapters c.in-Err.refusal c.ways_fault.result c.in-Err.ensures.refused
    c.ways_fault.ensures
