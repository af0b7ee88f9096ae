use Rattle.std.proofs.Common.{◌≡◌, arith, codes, length}
use Rattle.wc_why_text.specs.TreeJson.{root_json}
use Rattle.wc_why.specs.Tree.{tree_root_view}
use Rattle.wc_why_text.proofs.TokenLemmas.{both, list_done, list_more, wrote, wrote_last}
use Rattle.wc_why_text.proofs.tree_json.put_roots.Goals as goal

pub loop-root-init : goal.loop-root-init
loop-root-init c = both (wrote c.in_ok-key.ensures) (wrote c.in_ok-begin_array.ensures)

pub loop-root-preserved : goal.loop-root-preserved
loop-root-preserved c =
    list_more (codes "roots") root_json tree_root_view c.args.roots.now c.loop-root.root-index _ c.loop-root-test.true c.loop-root.invariant c.in_ok-put_root.ensures

pub returns : goal.returns
returns c =
    let end : c.loop-root.root-index ≡ length c.args.roots.now = omega (arith, c.loop-root-test.false, c.loop-root.auto.root-index-end) in
    list_done (codes "roots") root_json tree_root_view c.args.roots.now _ c.loop-root.root-index c.end_array.result end c.loop-root.invariant (wrote_last _ _ _ _ c.end_array.ensures)
