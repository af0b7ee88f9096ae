use Rattle.std.proofs.Common.{◌∙◌, sym}
use Rattle.wc_read.specs.Exports.{ExportValue, export_value}
use Rattle.wc_import_paths.proofs.SearchLemmas.{any_here}
use Rattle.wc_module_ways.specs.ComponentExports.{has_hash}
use Rattle.wc_module_ways.proofs.required.has_interface_export.Goals as goal

pub returns-then-has_hash : goal.returns-then-has_hash
returns-then-has_hash c =
    sym (any_here export_value (λ (e : ExportValue). has_hash e.name) c.args.exports.now c.loop-export.export-index _ c.loop-export-test.true
    (sym c.has_hash.ensures ∙ c.if-has_hash.true))
