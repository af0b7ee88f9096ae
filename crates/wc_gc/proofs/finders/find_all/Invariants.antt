use Rattle.std.proofs.Common.{◌-◌}
use Rattle.wc_gc.specs.Bits.{bit_of}
use Rattle.wc_read.specs.Decoded.{decoded_module}
use Rattle.wc_gc.specs.Private.Search.{finds}
use Rattle.wc_gc.proofs.FinderSearchLemmas.{HasFinders}
use Rattle.wc_gc.proofs.ItemCountLemmas.{total}
use Rattle.wc_gc.proofs.finders.find_all.Given as goal

abbrev pub invariant-loop-next : goal.invariant-loop-next
invariant-loop-next l = HasFinders (decoded_module l.adapter) l.initial.search.order.items (finds (λ b. bit_of b.words.items) l.search) l.search.order.items l.finder.items l.next

abbrev pub decreases-loop-next : goal.decreases-loop-next
decreases-loop-next l = total (decoded_module l.adapter) - l.next
