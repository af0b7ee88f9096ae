use Rattle.std.proofs.Common.{map}
use Rattle.wc_encoder.specs.Distinct.{exported_interfaces}
use Rattle.wc_resolve.specs.Dependencies.{interface_ids}
use Rattle.wc_resolve.specs.Views.{world_entry}
use Rattle.wc_record.proofs.UsedLemmas.{IsGathered}
use Rattle.wc_record.proofs.used.interfaces_among.Given as goal

abbrev pub invariant-loop-key : goal.invariant-loop-key
invariant-loop-key l = IsGathered (λ es. exported_interfaces (map world_entry es)) l.exports.entries l._key-iterator (interface_ids l.interfaces.items)
