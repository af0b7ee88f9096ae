use Rattle.wc_read.specs.Reading.InitTypes.{scope_value}
use Rattle.wc_read.proofs.InitCountsLemmas.{IsCounted}
use Rattle.wc_read.proofs.init_types.leaves_one_of_any.Given as goal

abbrev pub invariant-loop : goal.invariant-loop
invariant-loop l = IsCounted (scope_value l.scope) l.ty l.depth l.counter l.reader.rest.now l.init
