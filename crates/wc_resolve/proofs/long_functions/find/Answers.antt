use Rattle.std.proofs.Common.{subst, sym}
use Rattle.wc_resolve.specs.LongFunctions.{IsLongFunction}
use Rattle.wc_resolve.proofs.long_functions.find.Goals as goal

pub returns-then-index-kept-clause-kept : goal.returns-then-index-kept-clause-kept
returns-then-index-kept-clause-kept c = λ r all. c.if_at.ensures.kept r
    (subst (IsLongFunction r) (sym c.index-kept-index.is) (all c.functions_before-index.result c.index-kept-index.result c.if-index-kept.true))
