use Rattle.std.proofs.Common.{map, take}
use Rattle.wc_read.specs.Exports.{export_value}
use Rattle.wc_summary.specs.Private.Leads.{HasNamed}
use Rattle.wc_summary.proofs.leads.items_by_name.Given as goal

abbrev pub invariant-loop-export : goal.invariant-loop-export
invariant-loop-export l = HasNamed (map export_value (take l.export-index l.exports)) l.named.entries
