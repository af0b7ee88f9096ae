use Rattle.std.proofs.Common.{◌+◌, ◌≤◌, ◌∙◌, ap, arith, drop, length, map, sym}
use Rattle.std.proofs.lemmas.List.{at_drop_all, at_drop_more}
use Rattle.wc_why.specs.Tree.{tree_module_view}
use Rattle.wc_why_text.specs.TreeLines.{with_lines}
use Rattle.wc_why_text.proofs.way_items.put_items.Goals as goal

pub loop-item-preserved : goal.loop-item-preserved
loop-item-preserved c =
    let modules = map tree_module_view c.args.modules.now in
    let items = c.args.items.now in
    ap (λ k. with_lines modules k (drop (c.loop-item.item-index + 1) items)) c.in_ok-put_item.ensures
    ∙ sym (at_drop_more (with_lines modules c.loop-item.above.keys) items c.loop-item.item-index _ c.loop-item-test.true)
    ∙ c.loop-item.invariant

pub returns : goal.returns
returns c =
    let end : length c.args.items.now ≤ c.loop-item.item-index = omega (arith, c.loop-item-test.false) in
    sym (at_drop_all (with_lines (map tree_module_view c.args.modules.now) c.loop-item.above.keys) c.args.items.now c.loop-item.item-index end)
    ∙ c.loop-item.invariant
