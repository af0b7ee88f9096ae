use Rattle.std.proofs.Common.{map}
use Rattle.wc_resolve.specs.declared.ids.InterfaceId.{InterfaceId}
use Rattle.wc_resolve.specs.Views.{world_entry}
use Rattle.wc_encoder.specs.Distinct.{exported_interfaces}
use Rattle.wc_maps.proofs.SeenLemmas.{IsSeen}
use Rattle.wc_encoder.proofs.distinct.are_interfaces_once.Given as goal

abbrev pub invariant-loop-key : goal.invariant-loop-key
invariant-loop-key l = IsSeen (λ (id : InterfaceId). id.0) (exported_interfaces (map world_entry l.exports.entries)) (exported_interfaces (map world_entry l._key-iterator)) l.seen.keys
