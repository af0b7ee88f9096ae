use Rattle.std.specs.Option.{option_map}
use Rattle.wc_read.proofs.ProducersReadLemmas.{IsLastTo}
use Rattle.wc_read.proofs.producers.producers.Given as goal

abbrev pub invariant-loop-section : goal.invariant-loop-section
invariant-loop-section l = IsLastTo l.sections l.section-index (option_map (λ b. b.now) l.last)
