use Rattle.std.proofs.Common.{◌-◌, take}
use Rattle.wc_read.specs.Decoded.{decoded_module}
use Rattle.wc_gc.specs.Private.KeptBodies.{KeepsCuts}
use Rattle.wc_gc.specs.Private.Search.{FindsItems, finds}
use Rattle.wc_gc.proofs.ReachLemmas.{IsAt}
use Rattle.wc_gc.proofs.ItemCountLemmas.{total}
use Rattle.wc_gc.proofs.search.Search.reach_all.Given as goal

abbrev pub invariant-loop-root : goal.invariant-loop-root
invariant-loop-root g l = FindsItems g.L.LiveSet.has l.initial.self l.self (take l.root-index l.roots)

abbrev pub invariant-loop-next : goal.invariant-loop-next
invariant-loop-next g l = IsAt (decoded_module l.adapter) l.roots (finds g.L.LiveSet.has l.self) l.self.order.items l.next × KeepsCuts l.adapter.funcs.items l.fn.cuts l.cuts

abbrev pub decreases-loop-next : goal.decreases-loop-next
decreases-loop-next g l = total (decoded_module l.adapter) - l.next
