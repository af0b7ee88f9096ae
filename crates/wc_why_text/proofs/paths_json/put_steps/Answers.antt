use Rattle.std.proofs.Common.{◌≡◌, arith, length, map}
use Rattle.wc_why.specs.Tree.{tree_module_view}
use Rattle.wc_why_text.proofs.StepLemmas.{steps_done, steps_more}
use Rattle.wc_why_text.proofs.TokenLemmas.{both, wrote, wrote_last}
use Rattle.wc_why_text.proofs.paths_json.put_steps.Goals as goal

pub loop-item-init : goal.loop-item-init
loop-item-init c = both (wrote c.in_ok-key.ensures) (wrote c.in_ok-begin_array.ensures)

pub loop-item-preserved : goal.loop-item-preserved
loop-item-preserved c =
    steps_more (map tree_module_view c.args.modules.now) c.args.items.now c.loop-item.item-index _ c.loop-item-test.true c.loop-item.invariant
    c.in_ok-put_steps_at.ensures

pub returns : goal.returns
returns c =
    let end : c.loop-item.item-index ≡ length c.args.items.now = omega (arith, c.loop-item-test.false, c.loop-item.auto.item-index-end) in
    steps_done (map tree_module_view c.args.modules.now) c.args.items.now _ c.loop-item.item-index c.end_array.result end c.loop-item.invariant
    (wrote_last _ _ _ _ c.end_array.ensures)
