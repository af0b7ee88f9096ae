use Rattle.std.proofs.Common.{subst}
use Rattle.std.specs.Option.{option_map}
use Rattle.wc_resolve.specs.Roots.{id_index}
use Rattle.wc_names.specs.ExportIndex.{ExportNamesView}
use Rattle.wc_names.specs.ExportNames.{NamesDestructor}
use Rattle.wc_names.specs.Finds.{Finds}
use Rattle.wc_names.proofs.legacy.LegacyNameMangling.match_wit_resource_dtor.Goals as goal

pub returns : goal.returns
returns c =
    subst (λ (v : ExportNamesView). Finds (option_map id_index c.destructed.result) (NamesDestructor v.syntax v.resolve v.exports v.keys c.args.name.now))
    c.in_ok-names.ensures c.destructed.ensures
