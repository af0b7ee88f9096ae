use Rattle.std.proofs.Common.{◌≡◌, ℕ, map, string_bytes, take}
use Rattle.std.specs.List.{enumerate_from, flat_map}
use Rattle.wc_why_text.specs.Runs.{runs_view}
use Rattle.wc_why.specs.Tree.{TreeItemView, tree_item_view, tree_module_view}
use Rattle.wc_why_text.specs.TreeGraph.{box_part}
use Rattle.wc_why_text.proofs.tree_graph.boxes.Given as goal

abbrev pub invariant-loop-position : goal.invariant-loop-position
invariant-loop-position l =
    string_bytes l.text
    ≡ flat_map (λ (e : ℕ × TreeItemView). box_part (runs_view l.runs) (tree_module_view l.«module») (l.index, e.0) e.1) (take l.position (enumerate_from 0 (map tree_item_view l.items)))
