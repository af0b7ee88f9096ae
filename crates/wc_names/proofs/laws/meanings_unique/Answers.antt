use Rattle.std.proofs.Common.{sym, subst}
use Rattle.wc_resolve.specs.WellFormed.{HaveDistinctNames}
use Rattle.wc_resolve.specs.Kinds.{ResolveView}
use Rattle.wc_names.proofs.KindLemmas.{classified_unique}
use Rattle.wc_names.proofs.laws.meanings_unique.Goals as goal

pub returns : goal.returns
returns c = λ e a m n same. classified_unique e (subst (λ (z : ResolveView). HaveDistinctNames z.packages) (sym same) c.well_formedness.ensures.distinct) a m n
