use Rattle.std.proofs.Common.{◌≡◌, map}
use Rattle.std.specs.List.{filter_map, range_with_len}
use Rattle.wc_why.specs.Tree.{tree_way_view}
use Rattle.wc_ways.specs.WaysTree.{way_at}
use Rattle.wc_ways.specs.Private.Wanted.{wanted_view}
use Rattle.wc_ways.proofs.tree.ways_of.Given as goal

abbrev pub invariant-loop-position : goal.invariant-loop-position
invariant-loop-position l = map tree_way_view l.ways.items ≡ filter_map (way_at (map wanted_view l.wanted) l.ends) (range_with_len 0 l.position)
