use Rattle.std.proofs.Common.{◌∙◌, None, Some, map, sym}
use Rattle.wc_names.specs.ExportViews.{export_view}
use Rattle.wc_validate.specs.Exports.Map.{export_entry}
use Rattle.wc_validate.proofs.RequirementLemmas.{called_back_by, called_back_unneeded}
use Rattle.wc_validate.proofs.requirements.is_called_back.Goals as goal

pub returns-then-not-needs_callback : goal.returns-then-not-needs_callback
returns-then-not-needs_callback c =
    called_back_unneeded (map export_entry c.args.names.now.entries) (c.args.name.now, export_view c.args.export.now)
    (sym c.needs_callback.ensures ∙ c.if-not-needs_callback.true)

pub returns-in-Some : goal.returns-in-Some
returns-in-Some c =
    c.is_callback_for.ensures
    ∙ called_back_by c.args.names.now.entries c.args.name.now c.as_str.result.now (export_view c.args.export.now) (Some c.in-Some.found.now)
    (sym c.needs_callback.ensures ∙ c.if-not-needs_callback.false)
    (c.as_str.ensures.value ∙ (c.in_ok-push_str.ensures.bytes ∙ rw c.in_ok-callback.ensures.ok)) c.in-Some.ensures.value

pub returns : goal.returns
returns c =
    called_back_by c.args.names.now.entries c.args.name.now c.as_str.result.now (export_view c.args.export.now) None
    (sym c.needs_callback.ensures ∙ c.if-not-needs_callback.false)
    (c.as_str.ensures.value ∙ (c.in_ok-push_str.ensures.bytes ∙ rw c.in_ok-callback.ensures.ok)) c.in-None.ensures.value
