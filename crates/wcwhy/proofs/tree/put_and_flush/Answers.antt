use Rattle.std.proofs.Common.{◌∙◌, sym}
use Rattle.wcwhy.proofs.TreeLemmas.{handed_on}
use Rattle.wcwhy.proofs.tree.put_and_flush.Goals as goal

pub returns-clause-done : goal.returns-clause-done
returns-clause-done g c =
    let d = c.in_ok-put_tree.ensures.done in
    let f = c.in_ok-flush.ensures in
    (d.0, d.1, (handed_on _ _ _ _ d.0 d.2 f.written f.sent, sym c.in_ok-put_tree.ensures.works ∙ f.refuses, f.works))
