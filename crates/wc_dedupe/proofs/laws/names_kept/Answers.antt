use Rattle.std.proofs.Common.{[], subst, arith}
use Rattle.wc_dedupe.specs.Laws.{AreDistinct}
use Rattle.wc_dedupe.proofs.DistinctLemmas.{names_are_distinct, names_are_kept}
use Rattle.wc_dedupe.proofs.laws.names_kept.Goals as goal

pub returns : goal.returns
returns c = λ originals names renamed. (
  λ same. subst AreDistinct same (names_are_distinct [] originals names renamed),
  λ distinct. names_are_kept [] originals names renamed distinct (λ x there before. absurd (omega (arith, before.1))),
)
