use Rattle.std.proofs.Common.{◌≡◌, arith, codes, length}
use Rattle.wc_why_text.specs.TreeJson.{way_json}
use Rattle.wc_why.specs.Tree.{tree_way_view}
use Rattle.wc_why_text.proofs.TokenLemmas.{both, list_done, list_more, wrote, wrote_last}
use Rattle.wc_why_text.proofs.tree_json.put_ways.Goals as goal

pub loop-way-init : goal.loop-way-init
loop-way-init c = both (wrote c.in_ok-key.ensures) (wrote c.in_ok-begin_array.ensures)

pub loop-way-preserved : goal.loop-way-preserved
loop-way-preserved c =
    list_more (codes "ways") way_json tree_way_view c.args.ways.now c.loop-way.way-index _ c.loop-way-test.true c.loop-way.invariant c.in_ok-put_way.ensures

pub returns : goal.returns
returns c =
    let end : c.loop-way.way-index ≡ length c.args.ways.now = omega (arith, c.loop-way-test.false, c.loop-way.auto.way-index-end) in
    list_done (codes "ways") way_json tree_way_view c.args.ways.now _ c.loop-way.way-index c.end_array.result end c.loop-way.invariant (wrote_last _ _ _ _ c.end_array.ensures)
