use Rattle.std.proofs.Common.{OnOk, map, subst}
use Rattle.wc_import_paths.specs.Followed.{followed_view}
use Rattle.wc_program.specs.Screen.{Becomes, output_ends}
use Rattle.wc_why.specs.Tree.{tree_caller_view, tree_view}
use Rattle.wcwhy.specs.Arguments.{command_view}
use Rattle.wcwhy.specs.Private.Execution.{PrintsSome}
use Rattle.wcwhy.specs.Tree.{IsTextBy}
use Rattle.wcwhy.proofs.ExecutionLemmas.{tree_printed}
use Rattle.wcwhy.proofs.execution.print_with.Goals as goal

pub returns-in-Ok-clause-done : goal.returns-in-Ok-clause-done
returns-in-Ok-clause-done g c are =
    let out = Becomes (output_ends g.O.Sink.written g.O.Output.sent g.O.Sink.is_failed) c.args.out.now c.print_tree.new.out in
    let f = c.args.ends.0.now in
    let tree = tree_view c.in-Ok.tree in
    tree_printed (command_view c.args.command.now) (followed_view f) f.bytes.now c.args.asked.now (map tree_caller_view c.args.ends.1.now) tree out
    c.print_tree.result are c.in-Ok.ensures
    (subst (λ form. OnOk c.print_tree.result (PrintsSome (IsTextBy form.dot form.json form.of_component tree) out)) c.form_of.ensures c.print_tree.ensures.done)
