use Rattle.std.proofs.Common.{◌≡◌, arith, codes, length}
use Rattle.wc_why_text.specs.TreeJson.{caller_json}
use Rattle.wc_why.specs.Tree.{tree_caller_view}
use Rattle.wc_why_text.proofs.TokenLemmas.{both, list_done, list_more, wrote, wrote_last}
use Rattle.wc_why_text.proofs.tree_json.put_caller_list.Goals as goal

pub loop-caller-init : goal.loop-caller-init
loop-caller-init c = both (wrote c.in_ok-key.ensures) (wrote c.in_ok-begin_array.ensures)

pub loop-caller-preserved : goal.loop-caller-preserved
loop-caller-preserved c =
    list_more (codes "first") caller_json tree_caller_view c.args.callers.now c.loop-caller.caller-index _ c.loop-caller-test.true c.loop-caller.invariant c.in_ok-put_caller.ensures

pub returns : goal.returns
returns c =
    let end : c.loop-caller.caller-index ≡ length c.args.callers.now = omega (arith, c.loop-caller-test.false, c.loop-caller.auto.caller-index-end) in
    list_done (codes "first") caller_json tree_caller_view c.args.callers.now _ c.loop-caller.caller-index c.end_array.result end c.loop-caller.invariant (wrote_last _ _ _ _ c.end_array.ensures)
