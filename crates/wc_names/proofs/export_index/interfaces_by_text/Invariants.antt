use Rattle.std.proofs.Common.{map}
use Rattle.wc_resolve.specs.Views.{key_view, world_entry}
use Rattle.wc_names.specs.ExportIndex.{listed}
use Rattle.wc_names.specs.ExportNames.{interface_with_text}
use Rattle.wc_names.proofs.ExportIndexLemmas.{AreListed}
use Rattle.wc_names.proofs.export_index.interfaces_by_text.Given as goal

abbrev pub invariant-loop-key : goal.invariant-loop-key
invariant-loop-key l =
    AreListed (listed l.interfaces.entries) (interface_with_text l.syntax l.resolve (map world_entry l.exports.entries)) (map key_view l.keys.keys)
    (map key_view l.key-iterator)
