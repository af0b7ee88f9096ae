use Rattle.std.proofs.Common.{codes, map}
use Rattle.wc_why_text.specs.TreeJson.{item_json}
use Rattle.wc_why.specs.Tree.{tree_caller_view, tree_item_view}
use Rattle.wc_why_text.specs.Private.Tokens.{Puts}
use Rattle.wc_why_text.proofs.TokenLemmas.{so_far}
use Rattle.wc_why_text.proofs.tree_json.put_items.Given as goal

abbrev pub invariant-loop-item : goal.invariant-loop-item
invariant-loop-item l = Puts l.fn.out l.out (so_far (codes "items") (item_json (map tree_caller_view l.callers)) tree_item_view l.items l.item-index)
