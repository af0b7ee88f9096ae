use Rattle.std.proofs.lemmas.Result.{err_from_is_err_and}
use Rattle.wc_read.specs.Reading.Instructions.{instr_at}
use Rattle.wc_read.specs.Operators.{SpellsInstr}
use Rattle.wc_read.proofs.OperatorsLemmas.{instr_meets, instr_some}
use Rattle.wc_read.proofs.ToEndLemmas.{to_end, after_more, after_fails, after_shorter}
use Rattle.wc_read.proofs.bodies.operators.Goals as goal

pub returns-in_err-push_operator-clause-refused : goal.returns-in_err-push_operator-clause-refused
returns-in_err-push_operator-clause-refused c =
    let p = err_from_is_err_and c.from_residual-in_err-push_operator.result c.from_residual-in_err-push_operator.ensures.1 in
    rw (p.1, p.2) (λ real. after_fails SpellsInstr instr_at instr_meets instr_some _ _ _ c.loop-reader-test.ensures c.loop-reader.invariant (c.in_err-push_operator.ensures.0 real))

pub loop-reader-smaller : goal.loop-reader-smaller
loop-reader-smaller c = after_shorter SpellsInstr instr_at instr_meets instr_some _ _ _ _ c.in_ok-push_operator.ensures

pub loop-reader-preserved : goal.loop-reader-preserved
loop-reader-preserved c = after_more SpellsInstr instr_at instr_meets instr_some _ _ _ _ _ c.loop-reader.invariant c.in_ok-push_operator.ensures

pub returns-clause-found : goal.returns-clause-found
returns-clause-found c = to_end SpellsInstr _ _ _ c.loop-reader-test.ensures c.loop-reader.invariant
