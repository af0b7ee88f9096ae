use Rattle.std.proofs.Common.{drop, map}
use Rattle.std.specs.List.{filter_map}
use Rattle.wc_resolve.specs.Dependencies.{interface_ids}
use Rattle.wc_world.specs.Used.{used_view}
use Rattle.wc_record.specs.Private.Used.{used_interface_view}
use Rattle.wc_record.specs.Worlds.{used_interface}
use Rattle.wc_record.proofs.UsedLemmas.{IsGathered}
use Rattle.wc_record.proofs.used.used_among.Given as goal

abbrev pub invariant-loop-id : goal.invariant-loop-id
invariant-loop-id l =
    IsGathered (λ ids. filter_map (used_interface l.listed (used_view l.used)) (interface_ids ids)) l.interfaces (drop l.id-index l.interfaces)
    (map used_interface_view l.list.items)
