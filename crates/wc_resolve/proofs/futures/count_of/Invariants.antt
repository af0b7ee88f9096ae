use Rattle.std.proofs.Common.{◌≡◌, map, take}
use Rattle.wc_resolve.specs.Futures.{count_of, entry_view}
use Rattle.wc_resolve.proofs.futures.count_of.Given as goal

abbrev pub invariant-loop-id : goal.invariant-loop-id
invariant-loop-id l = l.count ≡ count_of (map entry_view l.entries) (take l.id-index l.ids)
