use Rattle.std.proofs.Common.{◌≡◌, map, take}
use Rattle.std.specs.List.{flat_map}
use Rattle.wc_why_text.specs.Runs.{way_places}
use Rattle.wc_why.specs.Tree.{tree_way_view}
use Rattle.wc_why_text.proofs.runs.way_ends.Given as goal

abbrev pub invariant-loop-way : goal.invariant-loop-way
invariant-loop-way l = l.ends.items ≡ flat_map way_places (map tree_way_view (take l.way-index l.ways))
