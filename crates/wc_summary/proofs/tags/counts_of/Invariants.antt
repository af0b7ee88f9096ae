use Rattle.wc_summary.proofs.TagLemmas.{ArePlacesCountedTo}
use Rattle.wc_summary.proofs.tags.counts_of.Given as goal

abbrev pub invariant-loop-position : goal.invariant-loop-position
invariant-loop-position l = ArePlacesCountedTo l.places l.count l.position l.counts.items
