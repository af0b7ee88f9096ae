use Rattle.std.proofs.Common.{◌≡◌, map, take}
use Rattle.wc_why.specs.Tree.{tree_way_view}
use Rattle.wc_why_text.specs.Ways.{chosen_ways}
use Rattle.wc_why_text.proofs.ways.chosen_ways.Given as goal

abbrev pub invariant-loop-way : goal.invariant-loop-way
invariant-loop-way l = map tree_way_view l.chosen.items ≡ chosen_ways l.imports (map tree_way_view (take l.way-index l.ways))
