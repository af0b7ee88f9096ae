use Rattle.std.proofs.Common.{map, subst}
use Rattle.wc_read.specs.Exports.{export_value}
use Rattle.wc_read.specs.Modules.{module_value}
use Rattle.wc_validate.specs.Private.Explain.{IsExportStopAt}
use Rattle.wc_validate.proofs.ExplainLemmas.{first_mismatch}
use Rattle.wc_validate.proofs.explain.exports.export_refusal.Goals as goal

pub returns : goal.returns
returns c = λ e keys stop.
    let own = subst (IsExportStopAt e keys (module_value c.args.module.now) (map export_value c.args.exports.now) c.args.refused.index)
    c.in-SignatureMismatch.is stop in (
      first_mismatch e keys (module_value c.args.module.now) (map export_value c.args.exports.now) c.args.refused.index own.0 own.1,
      c.in_ok-place.ensures e keys own,
    )
