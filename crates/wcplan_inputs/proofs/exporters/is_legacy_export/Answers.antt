use Rattle.std.proofs.Common.{◌≡◌, ◌∙◌, IfOk, map, option_copied, subst}
use Rattle.wc_resolve.specs.Resolve.{core_name}
use Rattle.wc_maps.specs.Texts.{text_of}
use Rattle.wcplan_inputs.proofs.ExporterLemmas.{last_legacy}
use Rattle.wcplan_inputs.proofs.exporters.is_legacy_export.Goals as goal

pub returns : goal.returns
returns c =
    subst (λ z. IfOk c.is_lifted-2.result (λ is. is ≡ z))
    (last_legacy (map text_of c.args.names.now.keys) (core_name (option_copied c.args.interface) c.args.function.now) c.deref.result.now c.deref-2.result.now
    c.deref-3.result.now c.has_name.result c.in_ok-is_lifted.field-0 (c.deref.ensures ∙ c.in_ok-name.ensures) (c.deref-2.ensures ∙ c.in_ok-name.ensures)
    (c.deref-3.ensures ∙ c.in_ok-name.ensures) c.has_name.ensures c.if-has_name.false c.in_ok-is_lifted.ensures c.if-branch.false)
    c.is_lifted-2.ensures
