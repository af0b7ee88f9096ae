use Rattle.std.proofs.Common.{◌≡◌, map, string_bytes, take}
use Rattle.std.specs.List.{flat_map}
use Rattle.wc_why.specs.Tree.{tree_way_view}
use Rattle.wc_why_text.specs.TreeGraph.{way_line}
use Rattle.wc_why_text.proofs.tree_graph.way_lines.Given as goal

abbrev pub invariant-loop-way : goal.invariant-loop-way
invariant-loop-way l = string_bytes l.lines ≡ flat_map way_line (map tree_way_view (take l.way-index l.ways))
