use Rattle.std.proofs.Common.{◌≡◌, ◌++◌, map, take}
use Rattle.wc_segments.specs.Segments.{segments_value}
use Rattle.wc_paths.specs.Counts.{counts_value}
use Rattle.wc_why.specs.Part.{begin_view}
use Rattle.wc_import_paths.specs.Parts.{active_begins}
use Rattle.wc_import_paths.proofs.part.push_active.Given as goal

abbrev pub invariant-loop-item : goal.invariant-loop-item
invariant-loop-item l =
    map begin_view l.begins.items ≡ map begin_view l.fn.begins.items
    ++ active_begins (counts_value l.counts) (segments_value l.segments) (take l.item-index l.active)
