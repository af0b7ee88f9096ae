use Rattle.std.proofs.Common.{arith}
use Rattle.wc_write.proofs.VectorLemmas.{items_end}
use Rattle.wc_gc.specs.Private.MachineOperators.{operator_text}
use Rattle.wc_gc.proofs.added_code.append_code.Goals as goal

pub returns : goal.returns
returns c = items_end operator_text _ _ c.args.code.now c.loop-operator.operator-index c.loop-operator.invariant (omega arith)
