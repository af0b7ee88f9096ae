use Rattle.std.proofs.Common.{map, take}
use Rattle.wc_resolve.specs.Futures.{entry_view}
use Rattle.wc_resolve.specs.Views.{type_view}
use Rattle.wc_resolve.proofs.FuturesEntryLemmas.{EntriesOf}
use Rattle.wc_resolve.proofs.futures.futures_entries.Given as goal

abbrev pub invariant-loop-index : goal.invariant-loop-index
invariant-loop-index l = EntriesOf (map type_view l.types) (map entry_view l.entries.items) (take l.index-index l.order)
