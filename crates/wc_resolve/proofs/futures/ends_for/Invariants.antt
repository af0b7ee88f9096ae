use Rattle.std.proofs.Common.{◌≡◌, ◌++◌, drop, map}
use Rattle.wc_resolve.specs.Futures.{ends_from, entry_view}
use Rattle.wc_resolve.proofs.futures.ends_for.Given as goal

abbrev pub invariant-loop-id : goal.invariant-loop-id
invariant-loop-id l = l.ends.items ++ ends_from (map entry_view l.entries) l.end (drop l.id-index l.ids) ≡ ends_from (map entry_view l.entries) 0 l.ids
