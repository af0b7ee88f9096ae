use Rattle.std.proofs.Common.{sym, ◌∙◌, rules}
use Rattle.wc_read.specs.Exports.{ExportValue, export_value}
use Rattle.wc_component_file.proofs.PickedLemmas.{not_all_seen}
use Rattle.wc_component_file.specs.Told.{is_shim_name}
use Rattle.wc_component_file.proofs.told.are_shim_names.Goals as goal

pub returns-then-not-is_shim_name : goal.returns-then-not-is_shim_name
returns-then-not-is_shim_name c =
    sym (not_all_seen export_value (λ (e : ExportValue). is_shim_name e.name) c.args.exports.now c.loop-export.export-index _ (search rules)
    (sym c.is_shim_name.ensures ∙ c.if-not-is_shim_name.true))
