use Rattle.wc_why.specs.Tree.{tree_view}
use Rattle.wcwhy.proofs.TreeLemmas.{lines_put}
use Rattle.wcwhy.proofs.tree.put_tree.Goals as goal

pub returns-else-form-2-clause-done : goal.returns-else-form-2-clause-done
returns-else-form-2-clause-done g c =
    lines_put (tree_view c.args.tree.now) (g.S.Sink.written c.args.out.now) (g.S.Sink.written c.put_lines.new.out) c.put_lines.result c.args.form.dot
    c.args.form.json c.args.form.of_component c.if-form.false c.if-form-2.false c.put_lines.ensures.done
