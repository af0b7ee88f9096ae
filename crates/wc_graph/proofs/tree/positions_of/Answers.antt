use Rattle.std.proofs.Common.{◌<◌, ◌≤◌, length, rules}
use Rattle.wc_graph.proofs.TreeLemmas.{placed_all, placed_more}
use Rattle.wc_graph.proofs.tree.positions_of.Goals as goal

pub loop-position-preserved : goal.loop-position-preserved
loop-position-preserved c =
    let items = c.args.items.now in
    let lt : c.loop-position.position < length items = search rules in
    placed_more items c.args.size c.loop-position.places.items c.loop-position.position lt (c.requires c.loop-position.position 0 lt) c.loop-position.invariant

pub returns : goal.returns
returns c =
    let items = c.args.items.now in
    let over : length items ≤ c.loop-position.position = search rules in
    placed_all items c.args.size c.loop-position.places.items c.loop-position.position over c.loop-position.invariant
