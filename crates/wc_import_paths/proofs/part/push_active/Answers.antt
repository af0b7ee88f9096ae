use Rattle.std.proofs.Common.{◌<◌, Some, arith, length, map}
use Rattle.wc_segments.specs.Segments.{segments_value}
use Rattle.wc_paths.specs.Counts.{counts_value}
use Rattle.wc_paths.specs.PathRoots.{filled_by}
use Rattle.wc_paths.specs.declared.items.PathItem.{PathItem}
use Rattle.wc_why.specs.Part.{begin_view}
use Rattle.wc_why.specs.Tree.{begun}
use Rattle.wc_import_paths.specs.Parts.{begin_at}
use Rattle.wc_import_paths.proofs.PickedLemmas.{listed_more}
use Rattle.wc_import_paths.proofs.part.push_active.Goals as goal

pub loop-item-preserved : goal.loop-item-preserved
loop-item-preserved c =
    let within : c.loop-item.item-index < length c.args.active.now = omega arith in
    listed_more (λ (x : PathItem). begin_at (counts_value c.args.counts.now) 2 (Some (begun (filled_by (segments_value c.args.segments.now) x))) x)
    c.args.active.now c.loop-item.item-index _ (map begin_view c.args.begins.now.items) (map begin_view c.loop-item.begins.items)
    (map begin_view c.push_begin.new.begins.items) within c.loop-item.invariant (rw c.filled_by.ensures at c.in_ok-push_begin.ensures)
