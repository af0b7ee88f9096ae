use Rattle.std.proofs.Common.{◌≡◌, map}
use Rattle.std.specs.List.{flat_map, range_with_len}
use Rattle.wc_why.specs.Tree.{tree_way_view}
use Rattle.wc_import_paths.specs.Shown.{end_view, way_at}
use Rattle.wc_import_paths.proofs.shown.ways_of.Given as goal

abbrev pub invariant-loop-position : goal.invariant-loop-position
invariant-loop-position l =
    map tree_way_view l.ways.items ≡ flat_map (way_at l.with_unreached (map end_view l.shown) l.ends) (range_with_len 0 l.position)
