use Rattle.std.proofs.Common.{◌<◌, length, arith, map}
use Rattle.wc_read.specs.Exports.{ExportValue, export_value}
use Rattle.wc_read.specs.Modules.{module_value}
use Rattle.wc_why.specs.Texts.{text_of}
use Rattle.wc_module_ways.specs.ComponentExports.{is_component_export}
use Rattle.wc_import_paths.proofs.PickedLemmas.{put_more}
use Rattle.wc_module_ways.proofs.component_exports.push_needed.Goals as goal

pub loop-export-preserved : goal.loop-export-preserved
loop-export-preserved c =
    let within : c.loop-export.export-index < length c.args.exports.now = omega arith in
    put_more (is_component_export (module_value c.args.code.now)) (λ (e : ExportValue). e.name) export_value c.args.exports.now c.loop-export.export-index _ within
    (map text_of c.args.names.now.items) (map text_of c.loop-export.names.items) (map text_of c.push_if_needed.new.names.items) c.loop-export.invariant
    c.in_ok-push_if_needed.ensures
