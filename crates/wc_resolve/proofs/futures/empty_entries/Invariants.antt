use Rattle.std.proofs.Common.{◌≡◌, map, replicate}
use Rattle.wc_resolve.specs.Futures.{entry_view, no_futures}
use Rattle.wc_resolve.proofs.futures.empty_entries.Given as goal

abbrev pub invariant-loop : goal.invariant-loop
invariant-loop l = map entry_view l.entries.items ≡ replicate l.counter no_futures
