use Rattle.std.proofs.Common.{◌≡◌, ℕ, map, string_bytes, take}
use Rattle.std.specs.List.{enumerate_from, flat_map}
use Rattle.wc_why_text.specs.Runs.{runs_view}
use Rattle.wc_why.specs.Tree.{TreeModuleView, tree_module_view}
use Rattle.wc_why_text.specs.TreeGraph.{module_arrows}
use Rattle.wc_why_text.proofs.tree_graph.arrows.Given as goal

abbrev pub invariant-loop-index : goal.invariant-loop-index
invariant-loop-index l =
    string_bytes l.text
    ≡ flat_map (λ (e : ℕ × TreeModuleView). module_arrows (runs_view l.runs) e.0 e.1) (take l.index (enumerate_from 0 (map tree_module_view l.modules)))
