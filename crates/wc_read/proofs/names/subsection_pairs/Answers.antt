use Rattle.std.proofs.Common.{arith}
use Rattle.std.proofs.lemmas.List.{map-append}
use Rattle.wc_read.proofs.NamesReadLemmas.{pairs_start, pairs_more, pairs_none, pairs_missing, pairs_end}
use Rattle.wc_read.proofs.names.subsection_pairs.Goals as goal

pub returns-in_default-clause-found : goal.returns-in_default-clause-found
returns-in_default-clause-found c = rw c.new-names.ensures.items (pairs_none _ (rw c.new-reader.ensures at (rw c.in_default.is at c.in_ok-count.ensures)))

pub loop-init : goal.loop-init
loop-init c = rw c.new-names.ensures.items (pairs_start _ _ _ (rw c.new-reader.ensures at (rw c.in-Some.is at c.in_ok-count.ensures)))

pub returns-in_default-2-clause-found : goal.returns-in_default-2-clause-found
returns-in_default-2-clause-found c = pairs_missing _ _ _ _ _ c.loop.invariant c.loop-test.true (rw c.in_default-2.is at c.in_ok-name.ensures)

pub loop-preserved : goal.loop-preserved
loop-preserved c = rw (c.in_ok-push.ensures.items, map-append) (pairs_more _ _ _ _ _ _ _ c.loop.invariant (rw c.in-Some-2.is at c.in_ok-name.ensures))

pub returns-clause-found : goal.returns-clause-found
returns-clause-found c = rw c.is_empty-complete.ensures (pairs_end _ _ _ _ _ c.loop.invariant (omega arith))
