use Rattle.std.proofs.Common.{◌≡◌, map, string_bytes, take}
use Rattle.std.specs.List.{flat_map}
use Rattle.wc_why_text.specs.Runs.{runs_view}
use Rattle.wc_why.specs.Tree.{tree_way_view}
use Rattle.wc_why_text.specs.TreeGraph.{end_arrow}
use Rattle.wc_why_text.proofs.tree_graph.group_arrows.Given as goal

abbrev pub invariant-loop-way : goal.invariant-loop-way
invariant-loop-way l = string_bytes l.text ≡ flat_map (end_arrow (runs_view l.runs) l.number) (map tree_way_view (take l.way-index l.ways))
