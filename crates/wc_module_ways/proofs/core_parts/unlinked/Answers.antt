use Rattle.std.proofs.Common.{◌<◌, [], arith, length, map, not}
use Rattle.wc_maps.specs.Texts.{is_in}
use Rattle.wc_read.specs.Exports.{ExportValue, export_value}
use Rattle.wc_why.specs.Texts.{text_of}
use Rattle.wc_import_paths.proofs.PickedLemmas.{kept_more}
use Rattle.wc_module_ways.proofs.core_parts.unlinked.Goals as goal

pub loop-export-preserved : goal.loop-export-preserved
loop-export-preserved c =
    let within : c.loop-export.export-index < length c.args.exports.now = omega arith in
    let names = map text_of c.args.linked.now.keys in
    let put = rw c.is_in_set.ensures at c.in_ok-push_unless.ensures in
    kept_more export_value (λ (e : ExportValue). not (is_in names e.name)) c.args.exports.now c.loop-export.export-index _ []
    (map export_value c.loop-export.others.items) (map export_value c.push_unless.new.others.items) within c.loop-export.invariant put
