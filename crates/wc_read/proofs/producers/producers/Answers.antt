use Rattle.std.proofs.Common.{◌∙◌, sym}
use Rattle.wc_read.proofs.ProducersReadLemmas.{last_found, last_kept}
use Rattle.wc_read.proofs.producers.producers.Goals as goal
use Rattle.wc_read.proofs.producers.producers.Goals.{then-is_some, else-is_some}

pub loop-section-preserved : goal.loop-section-preserved
loop-section-preserved c = elim c.if-is_some.branch [
  | then-is_some w ↦ rw w.last-is (last_found _ _ _ c.in_ok-found.found _ c.loop-section.invariant c.loop-section-test.true c.in_ok-found.ensures.found (sym w.if-is_some.true ∙ c.is_some.ensures))
  | else-is_some w ↦ rw w.last-is (last_kept _ _ _ c.in_ok-found.found _ c.loop-section.invariant c.loop-section-test.true c.in_ok-found.ensures.found (sym w.if-is_some.false ∙ c.is_some.ensures))
]
