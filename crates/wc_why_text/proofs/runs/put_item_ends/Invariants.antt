use Rattle.std.proofs.Common.{◌≡◌, ℕ, ◌++◌, map, take}
use Rattle.std.specs.List.{enumerate_from, flat_map}
use Rattle.wc_why_text.specs.Runs.{item_end, source}
use Rattle.wc_why.specs.Tree.{TreeItemView, tree_item_view, tree_root_view}
use Rattle.wc_why_text.proofs.runs.put_item_ends.Given as goal

abbrev pub invariant-loop-position : goal.invariant-loop-position
invariant-loop-position l =
    l.ends.items ≡ l.fn.ends.items
    ++ flat_map (λ (e : ℕ × TreeItemView). item_end (l.index, e.0) (source l.index (map tree_root_view l.roots) e.1))
    (take l.position (enumerate_from 0 (map tree_item_view l.items)))
