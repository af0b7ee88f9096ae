use Rattle.std.proofs.Common.{map, take}
use Rattle.wc_read.specs.Exports.{export_value}
use Rattle.wc_ways.specs.Private.Modules.{AreByName}
use Rattle.wc_ways.proofs.modules.exports_by_name.Given as goal

abbrev pub invariant-loop-export : goal.invariant-loop-export
invariant-loop-export l = AreByName (map export_value (take l.export-index l.exports)) l.named.entries
