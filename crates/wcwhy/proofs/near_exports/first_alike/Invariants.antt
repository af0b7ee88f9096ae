use Rattle.std.proofs.Common.{◌≡◌, None, map, take}
use Rattle.wc_read.specs.Exports.{export_value}
use Rattle.wcwhy.specs.NearExports.{first_alike}
use Rattle.wcwhy.proofs.near_exports.first_alike.Given as goal

abbrev pub invariant-loop-export : goal.invariant-loop-export
invariant-loop-export l = first_alike l.name (map export_value (take l.export-index l.exports)) ≡ None
