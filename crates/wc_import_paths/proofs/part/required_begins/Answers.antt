use Rattle.std.proofs.Common.{◌<◌, arith, length, map, [], Some, None}
use Rattle.wc_read.specs.Exports.{ExportValue, export_value}
use Rattle.wc_paths.specs.Roots.{export_item}
use Rattle.wc_why.specs.Tree.{exported}
use Rattle.wc_paths.specs.Counts.{counts_value}
use Rattle.wc_why.specs.Part.{begin_view}
use Rattle.wc_import_paths.specs.Parts.{begin_at}
use Rattle.wc_import_paths.proofs.PickedLemmas.{joined_more}
use Rattle.wc_import_paths.proofs.part.required_begins.Goals as goal

pub loop-export-preserved : goal.loop-export-preserved
loop-export-preserved c =
    let within : c.loop-export.export-index < length c.args.exports.now = omega arith in
    joined_more export_value (λ (e : ExportValue). begin_at (counts_value c.args.counts.now) 0 (Some (exported e.name None)) (export_item e))
    c.args.exports.now c.loop-export.export-index _ [] (map begin_view c.loop-export.begins.items)
    (map begin_view c.push_begin.new.begins.items) within c.loop-export.invariant (rw c.export_item.ensures at c.in_ok-push_begin.ensures)
