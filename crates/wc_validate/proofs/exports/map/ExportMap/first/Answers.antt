use Rattle.std.proofs.Common.{◌∙◌, Some, ap, slice_get}
use Rattle.std.specs.Option.{option_and_then, option_map}
use Rattle.wc_names.specs.ExportViews.{export_view}
use Rattle.wc_validate.specs.Exports.Map.{export_entry}
use Rattle.wc_validate.proofs.FirstExportLemmas.{looked_up}
use Rattle.wc_validate.proofs.exports.map.ExportMap.first.Goals as goal

pub returns-in_err-position : goal.returns-in_err-position
returns-in_err-position c =
    rw c.from_residual.ensures
    (ap (λ o. option_map export_entry (option_and_then (slice_get c.self.inside.names.entries) o)) c.in_err-position.ensures
    ∙ looked_up c.self.inside.positions c.self.inside.names.entries c.args.self.now c.args.query c.self.view_is c.self.invariant)

pub returns-in_err-name : goal.returns-in_err-name
returns-in_err-name c =
    rw c.from_residual-in_err-name.ensures
    (ap (option_map export_entry) c.in_err-name.ensures.entry
    ∙ (ap (λ o. option_map export_entry (option_and_then (slice_get c.self.inside.names.entries) o)) c.in_ok-position.ensures
    ∙ looked_up c.self.inside.positions c.self.inside.names.entries c.args.self.now c.args.query c.self.view_is c.self.invariant))

pub returns : goal.returns
returns c =
    ap (λ z. Some (z, export_view c.in_ok-name.export.now)) c.as_str.ensures.value
    ∙ (ap (option_map export_entry) c.in_ok-name.ensures.entry
    ∙ (ap (λ o. option_map export_entry (option_and_then (slice_get c.self.inside.names.entries) o)) c.in_ok-position.ensures
    ∙ looked_up c.self.inside.positions c.self.inside.names.entries c.args.self.now c.args.query c.self.view_is c.self.invariant))
