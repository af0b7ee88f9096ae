use Rattle.std.proofs.Common.{◌≡◌, ℕ, List, string_bytes, take}
use Rattle.std.specs.List.{enumerate_from, flat_map}
use Rattle.wc_why_text.specs.Groups.{group_names, group_ways}
use Rattle.wc_why_text.specs.Runs.{runs_view}
use Rattle.wc_why_text.specs.TreeGraph.{end_arrow}
use Rattle.wc_why_text.proofs.tree_graph.end_arrows.Given as goal

abbrev pub invariant-loop-number : goal.invariant-loop-number
invariant-loop-number l =
    string_bytes l.text
    ≡ flat_map (λ (e : ℕ × List ℕ). flat_map (end_arrow (runs_view l.runs) e.0) (group_ways l.groups.entries e.1)) (take l.number (enumerate_from 0 (group_names l.groups.entries)))
