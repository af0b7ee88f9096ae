use Rattle.wc_why.specs.Tree.{tree_view}
use Rattle.wc_world.specs.WorldViews.{world_view}
use Rattle.wc_ways.proofs.WaysLemmas.{ways_json, ways_tree}
use Rattle.wc_ways.proofs.ways.json_in.Goals as goal

pub returns : goal.returns
returns c =
    let w = world_view c.args.world.now in
    let tree = tree_view c.in_ok-tree.tree in
    ways_json w c.args.key.now tree c.tree_to_json.result
    (ways_tree w c.args.key.now c.in_ok-shown.shown tree c.in_ok-shown.ensures c.in_ok-tree.ensures) c.tree_to_json.ensures.text c.tree_to_json.ensures.reads_back
