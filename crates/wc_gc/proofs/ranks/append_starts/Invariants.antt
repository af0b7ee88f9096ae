use Rattle.std.proofs.Common.{◌≡◌, length}
use Rattle.wc_gc.proofs.StartLemmas.{AreAdded, AreKept}
use Rattle.wc_gc.proofs.ranks.append_starts.Given as goal

abbrev pub invariant-loop : goal.invariant-loop
invariant-loop l = record {
  long : length l.starts.items ≡ l.counter;
  kept : AreKept l.fn.starts.items l.starts.items;
  added : AreAdded l.fn.starts.items l.starts.items l.block l.index;
}
