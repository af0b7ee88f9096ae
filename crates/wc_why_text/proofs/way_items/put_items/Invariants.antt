use Rattle.std.proofs.Common.{◌≡◌, drop, map}
use Rattle.wc_why.specs.Tree.{tree_module_view}
use Rattle.wc_why_text.specs.TreeLines.{with_lines}
use Rattle.wc_why_text.proofs.way_items.put_items.Given as goal

abbrev pub invariant-loop-item : goal.invariant-loop-item
invariant-loop-item l =
    with_lines (map tree_module_view l.modules) l.above.keys (drop l.item-index l.items) ≡ with_lines (map tree_module_view l.modules) l.fn.above.keys l.items
