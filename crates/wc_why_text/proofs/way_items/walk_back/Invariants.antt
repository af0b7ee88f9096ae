use Rattle.std.proofs.Common.{Some, map}
use Rattle.wc_why.specs.Tree.{tree_module_view}
use Rattle.wc_why_text.specs.TreeLines.{most_items}
use Rattle.wc_why_text.proofs.WayItemLemmas.{IsWalked}
use Rattle.wc_why_text.proofs.way_items.walk_back.Given as goal

abbrev pub invariant-loop : goal.invariant-loop
invariant-loop l =
    IsWalked (map tree_module_view l.modules) l.above.keys (most_items (map tree_module_view l.modules) l.fn.end.0) (Some l.fn.end) l.counter l.items.items l.next
