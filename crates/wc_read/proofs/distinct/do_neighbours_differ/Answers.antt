use Rattle.std.proofs.Common.{◌≡◌, true, false, refl, arith}
use Rattle.std.proofs.lemmas.Bool.{false≢true}
use Rattle.wc_read.specs.Reading.Exports.{NeighboursDiffer}
use Rattle.wc_read.proofs.DistinctNamesLemmas.{texts_same, texts_differ, one_again, next_differs}
use Rattle.wc_read.proofs.distinct.do_neighbours_differ.Goals as goal

pub returns-then-eq : goal.returns-then-eq
returns-then-eq c = (
  (λ t. absurd (let e : false ≡ true = t in false≢true e)),
  (λ differ. absurd (one_again c.args.names.now c.loop-index.index _ _ (omega arith) c.loop-index-test.true (texts_same _ _ c.if-eq.ensures) differ)),
)

pub loop-index-preserved : goal.loop-index-preserved
loop-index-preserved c = next_differs c.args.names.now c.loop-index.index _ _ (omega arith) c.loop-index-test.true c.loop-index.invariant (texts_differ _ _ c.if-eq.ensures)

pub returns : goal.returns
unfolding NeighboursDiffer
returns c = ((λ t k d inside. c.loop-index.invariant k d (omega (arith, inside))), (λ differ. refl))
