use Rattle.std.proofs.Common.{◌<◌, arith, length, map}
use Rattle.std.specs.Option.{option_map}
use Rattle.wc_paths.specs.Counts.{counts_value}
use Rattle.wc_why.specs.Part.{begin_view}
use Rattle.wc_why.specs.Tree.{tree_root_view}
use Rattle.wc_import_paths.specs.Parts.{begin_at}
use Rattle.wc_import_paths.proofs.PickedLemmas.{listed_more}
use Rattle.wc_import_paths.proofs.part.push_imports.Goals as goal

pub loop-item-preserved : goal.loop-item-preserved
loop-item-preserved c =
    let within : c.loop-item.item-index < length c.args.items.now = omega arith in
    listed_more (begin_at (counts_value c.args.counts.now) 3 (option_map tree_root_view c.args.root)) c.args.items.now c.loop-item.item-index _
    (map begin_view c.args.begins.now.items) (map begin_view c.loop-item.begins.items) (map begin_view c.push_begin.new.begins.items) within
    c.loop-item.invariant c.in_ok-push_begin.ensures
