use Rattle.std.proofs.Common.{◌∙◌, sym}
use Rattle.wc_read.specs.Exports.{export_value}
use Rattle.wcwhy.specs.NearExports.{is_alike_export}
use Rattle.wc_import_paths.proofs.SearchLemmas.{found_here, none_more}
use Rattle.wcwhy.proofs.near_exports.first_alike.Goals as goal

pub returns-then-is_alike_export : goal.returns-then-is_alike_export
returns-then-is_alike_export c =
    sym (found_here export_value (is_alike_export c.args.name.now) c.args.exports.now c.loop-export.export-index _ c.loop-export-test.true
    c.loop-export.invariant (sym c.is_alike_export.ensures ∙ c.if-is_alike_export.true))

pub loop-export-preserved : goal.loop-export-preserved
loop-export-preserved c =
    none_more export_value (is_alike_export c.args.name.now) c.args.exports.now c.loop-export.export-index _ c.loop-export-test.true
    c.loop-export.invariant (sym c.is_alike_export.ensures ∙ c.if-is_alike_export.false)
