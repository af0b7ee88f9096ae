use Rattle.std.proofs.Common.{map, drop}
use Rattle.wc_names.specs.ExportIndex.{exported_interface_view}
use Rattle.wc_names.specs.ExportNames.{HasFunction}
use Rattle.wc_names.proofs.SearchLemmas.{IsFirstInRest}
use Rattle.wc_names.proofs.export_index.function_in.Given as goal

abbrev pub invariant-loop-exported : goal.invariant-loop-exported
invariant-loop-exported l =
    IsFirstInRest (HasFunction l.resolve l.name) (map exported_interface_view l.interfaces) (map exported_interface_view (drop l.exported-index l.interfaces))
