use Rattle.std.proofs.Common.{◌≡◌, map, take}
use Rattle.wc_read.specs.Exports.{export_value}
use Rattle.wc_why.specs.Texts.{text_of}
use Rattle.wc_module_ways.specs.CoreParts.{unlinked}
use Rattle.wc_module_ways.proofs.core_parts.unlinked.Given as goal

abbrev pub invariant-loop-export : goal.invariant-loop-export
invariant-loop-export l =
    map export_value l.others.items ≡ unlinked (map text_of l.linked.keys) (map export_value (take l.export-index l.exports))
