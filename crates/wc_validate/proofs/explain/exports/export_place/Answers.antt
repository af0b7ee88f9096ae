use Rattle.std.proofs.Common.{◌<◌, ◌∙◌, ap, Some}
use Rattle.wc_read.specs.Exports.{ExportValue, export_value}
use Rattle.wc_read.specs.Modules.{count_of, module_value}
use Rattle.wc_resolve.proofs.ViewedLemmas.{all_unviewed}
use Rattle.wc_validate.specs.Private.Externs.{extern_view}
use Rattle.wc_validate.proofs.ExplainLemmas.{export_at}
use Rattle.wc_validate.proofs.explain.exports.export_place.Goals as goal

pub returns : goal.returns
returns c = λ e keys stop.
    export_at e keys (module_value c.args.module.now) c.args.exports.now c.args.index _ c.in_ok-name.name c.args.wanted
    c.in_ok-found.found c.in-Func.ty.now c.requires.in_range stop c.in_ok-name.ensures.ok
    (c.exported_type.ensures ∙ ap (λ z. Some (extern_view z)) c.in-Func.is) c.in_ok-found.ensures

pub exported_type-requires-clause-item : goal.exported_type-requires-clause-item
exported_type-requires-clause-item c =
    all_unviewed export_value (λ (x : ExportValue). x.index < count_of (module_value c.args.module.now) x.kind)
    c.args.exports.now c.requires.items c.args.index _ c.requires.in_range
