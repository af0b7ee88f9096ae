use Rattle.std.proofs.Common.{◌<◌}
use Rattle.std.proofs.lemmas.List.{get_or_default}
use Rattle.wc_read.specs.Exports.{ExportValue, export_value}
use Rattle.wc_read.specs.Modules.{count_of, module_value}
use Rattle.wc_resolve.proofs.ViewedLemmas.{all_unviewed}
use Rattle.wc_validate.proofs.ExportedFunctionLemmas.{index_none, typed_next}
use Rattle.wc_validate.proofs.requirements.exported_functions.typed_functions.Goals as goal

pub loop-export-init : goal.loop-export-init
loop-export-init c = index_none c.with_hasher-index.result.entries (module_value c.args.module.now) c.with_hasher-index.ensures.empty

pub exported_type-ty-requires-clause-item : goal.exported_type-ty-requires-clause-item
exported_type-ty-requires-clause-item c =
    all_unviewed export_value (λ (x : ExportValue). x.index < count_of (module_value c.args.module.now) x.kind)
    c.args.exports.now c.requires.items c.loop-export.export-index _ c.loop-export-test.true

pub loop-export-preserved : goal.loop-export-preserved
loop-export-preserved c =
    typed_next (module_value c.args.module.now) c.args.exports.now c.loop-export.export-index _ _ _ c.loop-export-test.true
    (get_or_default c.args.exports.now c.loop-export.export-index _ _ c.loop-export-test.true) c.exported_type-ty.ensures
    (c.in_ok-add_typed.ensures _ c.loop-export.invariant)
