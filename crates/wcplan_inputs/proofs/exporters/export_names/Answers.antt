use Rattle.std.proofs.Common.{◌∙◌, ℕ, List, map, ap, subst}
use Rattle.wc_read.specs.Modules.{module_value}
use Rattle.wc_read.specs.declared.exports.Export.{Export}
use Rattle.wc_maps.specs.Texts.{HasTexts, text_of}
use Rattle.wcplan_inputs.proofs.ExporterLemmas.{names_same, unread_names}
use Rattle.wcplan_inputs.proofs.exporters.export_names.Goals as goal

pub returns-in_ok-name_set-in-Ok : goal.returns-in_ok-name_set-in-Ok
returns-in_ok-name_set-in-Ok c = (
  module_value c.in-Ok.parsed,
  c.in-Ok.ensures.found,
  subst (λ (names : List (List ℕ)). HasTexts names (map text_of c.in_ok-name_set-in-Ok.field-0.keys))
      (ap (map (λ (e : Export). e.name.now)) c.deref.ensures.value ∙ names_same c.in-Ok.parsed.exports.items) c.in_ok-name_set-in-Ok.ensures,
)

pub returns-in-Err : goal.returns-in-Err
returns-in-Err c =
    unread_names (λ s. map text_of s.keys) c.args.bytes.now c.in-Err.fault c.without_names.result c.without_names.ensures.none c.without_names.ensures.refused
    c.in-Err.ensures.refused
