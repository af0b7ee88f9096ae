use Rattle.std.proofs.Common.{◌≡◌, IfOk, subst}
use Rattle.wcplan_inputs.specs.Exporters.{is_exported}
use Rattle.wcplan_inputs.proofs.ExporterLemmas.{passed_first, passed_none, passed_second}
use Rattle.wcplan_inputs.proofs.exporters.KeyFunctions.is_exported.Goals as goal

pub returns-then-branch : goal.returns-then-branch
unfolding is_exported
returns-then-branch c =
    passed_first _ _ c.in_ok-is_standard_export.field-0 c.in_ok-is_standard_export.ensures c.if-branch.true

pub returns-then-rejects_legacy : goal.returns-then-rejects_legacy
unfolding is_exported
returns-then-rejects_legacy c =
    passed_none _ c.args.rejects_legacy _ c.in_ok-is_standard_export.field-0 c.in_ok-is_standard_export.ensures c.if-branch.false c.if-rejects_legacy.true

pub returns : goal.returns
unfolding is_exported
returns c =
    subst (λ z. IfOk c.is_legacy_export.result (λ is. is ≡ z))
    (passed_second _ c.args.rejects_legacy _ c.in_ok-is_standard_export.field-0 c.in_ok-is_standard_export.ensures c.if-branch.false c.if-rejects_legacy.false)
    c.is_legacy_export.ensures
