use Rattle.std.proofs.Common.{map, length, ap}
use Rattle.wc_read.specs.Reading.Names.{global_name_value}
use Rattle.wc_read.proofs.NamesReadLemmas.{entries_start, entries_more, entries_end}
use Rattle.wc_read.proofs.names.names_under.Goals as goal

pub loop-pair-init : goal.loop-pair-init
loop-pair-init c = entries_start _ _ (ap length c.new-names.ensures)

pub loop-pair-preserved : goal.loop-pair-preserved
loop-pair-preserved c = entries_more _ _ _ _ _ c.loop-pair.invariant c.loop-pair-test.true c.in_ok-insert.ensures.entries

pub returns-clause-found : goal.returns-clause-found
returns-clause-found c =
    (map global_name_value c.in_ok-pairs.pairs.items, c.in_ok-pairs.ensures.found, rw c.deref-pair-items.ensures.value at (entries_end _ _ _ c.loop-pair.invariant c.loop-pair-test.false))
