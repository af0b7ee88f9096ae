use Rattle.std.proofs.Common.{◌≡◌, map, take}
use Rattle.wc_read.specs.Exports.{export_value}
use Rattle.wc_paths.specs.Counts.{counts_value}
use Rattle.wc_why.specs.Part.{begin_view}
use Rattle.wc_import_paths.specs.Parts.{required_begins}
use Rattle.wc_import_paths.proofs.part.required_begins.Given as goal

abbrev pub invariant-loop-export : goal.invariant-loop-export
invariant-loop-export l =
    map begin_view l.begins.items ≡ required_begins (counts_value l.counts) (map export_value (take l.export-index l.exports))
