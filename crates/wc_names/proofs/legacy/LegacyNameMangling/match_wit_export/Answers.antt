use Rattle.std.specs.Prelude.{IfOk}
use Rattle.std.proofs.Common.{subst}
use Rattle.std.specs.Option.{option_map}
use Rattle.wc_names.specs.ExportIndex.{ExportNamesView}
use Rattle.wc_names.specs.ExportNames.{NamesFunctionExport}
use Rattle.wc_names.specs.ExportViews.{export_target}
use Rattle.wc_names.specs.Finds.{Finds}
use Rattle.wc_names.proofs.legacy.LegacyNameMangling.match_wit_export.Goals as goal

pub returns : goal.returns
returns c =
    subst (λ (v : ExportNamesView). IfOk c.function.result (λ found. Finds (option_map export_target found)
    (NamesFunctionExport v.syntax v.resolve v.exports v.keys c.args.name.now)))
    c.in_ok-names.ensures c.function.ensures
