use Rattle.std.proofs.Common.{[], map}
use Rattle.wc_why.specs.Tree.{tree_way_view}
use Rattle.wc_import_paths.specs.Shown.{end_view, way_at}
use Rattle.wc_import_paths.proofs.PickedLemmas.{ranged_more}
use Rattle.wc_import_paths.proofs.shown.ways_of.Goals as goal

pub loop-position-preserved : goal.loop-position-preserved
loop-position-preserved c =
    ranged_more (way_at c.args.with_unreached (map end_view c.args.shown.now) c.args.ends.now) c.loop-position.position []
    (map tree_way_view c.loop-position.ways.items) (map tree_way_view c.push_way.new.ways.items) c.loop-position.invariant c.in_ok-push_way.ensures
