use Rattle.std.proofs.lemmas.Result.{IfOk-weaker}
use Rattle.wc_why.specs.Tree.{tree_view}
use Rattle.wc_world.specs.WorldViews.{world_view}
use Rattle.wc_ways.proofs.WaysLemmas.{ways_tree}
use Rattle.wc_ways.proofs.ways.text_in.Goals as goal

pub returns : goal.returns
returns c =
    let tree = tree_view c.in_ok-tree.tree in
    IfOk-weaker c.text_of.result _ _
    (λ s is. (tree, ways_tree (world_view c.args.world.now) c.args.key.now c.in_ok-shown.shown tree c.in_ok-shown.ensures c.in_ok-tree.ensures, is)) c.text_of.ensures
