use Rattle.std.proofs.lemmas.Result.{err_from_is_err_and}
use Rattle.wc_read.specs.Reading.Inits.{init_instr_at}
use Rattle.wc_read.specs.InitOperators.{init_bytes_left}
use Rattle.wc_read.proofs.ToEndLemmas.{to_shorter}
use Rattle.wc_read.proofs.InitsLemmas.{SpellsInitInstr, init_instr_meets, init_instr_some}
use Rattle.wc_read.proofs.InitOperatorsLemmas.{left_read, left_not_read, left_none, left_over}
use Rattle.wc_read.proofs.init_operators.InitOperators.next.Goals as goal

pub returns-then-is_empty-clause-found : goal.returns-then-is_empty-clause-found
returns-then-is_empty-clause-found c = left_none c.args.self.now c.if-self.true c.if-is_empty.ensures

pub returns-then-self-clause-refused : goal.returns-then-self-clause-refused
returns-then-self-clause-refused c = λ _. left_over c.args.self.now c.if-self.true c.if-is_empty.ensures

pub returns-in_err-operator-clause-refused : goal.returns-in_err-operator-clause-refused
returns-in_err-operator-clause-refused c =
    let p = err_from_is_err_and c.from_residual.result c.from_residual.ensures.1 in
    rw (p.1, p.2) (λ real. left_not_read c.args.self.now c.if-self.false (c.in_err-operator.ensures.0 real))

pub returns-clause-found : goal.returns-clause-found
returns-clause-found c = left_read c.args.self.now _ _ c.if-self.false c.in_ok-operator.ensures c.is_end-self.ensures

pub returns-clause-shorter : goal.returns-clause-shorter
unfolding init_bytes_left
returns-clause-shorter c = to_shorter SpellsInitInstr init_instr_at init_instr_meets init_instr_some _ _ _ c.in_ok-operator.ensures
