use Rattle.std.proofs.Common.{◌≡◌, arith, codes, length, map}
use Rattle.wc_why_text.specs.TreeJson.{item_json}
use Rattle.wc_why.specs.Tree.{tree_caller_view, tree_item_view}
use Rattle.wc_why_text.proofs.TokenLemmas.{both, list_done, list_more, wrote, wrote_last}
use Rattle.wc_why_text.proofs.tree_json.put_items.Goals as goal

pub loop-item-init : goal.loop-item-init
loop-item-init c = both (wrote c.in_ok-key.ensures) (wrote c.in_ok-begin_array.ensures)

pub loop-item-preserved : goal.loop-item-preserved
loop-item-preserved c =
    list_more (codes "items") (item_json (map tree_caller_view c.args.callers.now)) tree_item_view c.args.items.now c.loop-item.item-index _ c.loop-item-test.true c.loop-item.invariant c.in_ok-put_item.ensures

pub returns : goal.returns
returns c =
    let end : c.loop-item.item-index ≡ length c.args.items.now = omega (arith, c.loop-item-test.false, c.loop-item.auto.item-index-end) in
    list_done (codes "items") (item_json (map tree_caller_view c.args.callers.now)) tree_item_view c.args.items.now _ c.loop-item.item-index c.end_array.result end c.loop-item.invariant (wrote_last _ _ _ _ c.end_array.ensures)
