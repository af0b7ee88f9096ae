use Rattle.wc_read.specs.Reading.InitTypes.{scope_value}
use Rattle.wc_read.specs.InitOperators.{index_instr}
use Rattle.wc_read.proofs.InitIndexLemmas.{one_typed, typed_one}
use Rattle.wc_read.proofs.init_types.leaves_one.Goals as goal

pub returns-in-Some-clause-found : goal.returns-in-Some-clause-found
returns-in-Some-clause-found c = (
  (λ t. one_typed (scope_value c.args.scope.now) c.args.ty c.args.init.now (index_instr c.in-Some.named) c.in-Some.ensures (c.is_one.ensures.0 t)),
  (λ typed. c.is_one.ensures.1 (typed_one (scope_value c.args.scope.now) c.args.ty c.args.init.now (index_instr c.in-Some.named) c.in-Some.ensures typed)),
)
