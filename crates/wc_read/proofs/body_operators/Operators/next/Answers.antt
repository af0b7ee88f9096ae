use Rattle.std.proofs.lemmas.Result.{err_from_is_err_and}
use Rattle.wc_read.specs.Operators.{SpellsInstr}
use Rattle.wc_read.specs.Reading.Instructions.{instr_at}
use Rattle.wc_read.specs.BodyOperators.{operators_left, bytes_left}
use Rattle.wc_read.proofs.OperatorsLemmas.{instr_meets, instr_some}
use Rattle.wc_read.proofs.ToEndLemmas.{to_shorter}
use Rattle.wc_read.proofs.BodyOperatorsLemmas.{left_read, left_stopped, left_not_read}
use Rattle.wc_read.proofs.body_operators.Operators.next.Goals as goal

pub returns-in_err-operator-clause-refused : goal.returns-in_err-operator-clause-refused
unfolding operators_left
returns-in_err-operator-clause-refused c =
    let p = err_from_is_err_and c.from_residual.result c.from_residual.ensures.1 in
    rw (p.1, p.2) (λ _. left_not_read _ _ c.in_err-operator.ensures.0 c.in_err-operator.ensures.1)

pub returns-then-not-branch-clause-refused : goal.returns-then-not-branch-clause-refused
unfolding operators_left
returns-then-not-branch-clause-refused c =
    let read = rw c.in-Some.is at c.in_ok-operator.ensures in
    let e = rw (c.if-not-branch.true, c.token_of.ensures) at c.in_ok-step-in-Some.ensures in
    λ _. left_stopped _ _ _ _ read e

pub returns-else-not-branch-clause-found : goal.returns-else-not-branch-clause-found
unfolding operators_left
returns-else-not-branch-clause-found c =
    let read = rw c.in-Some.is at c.in_ok-operator.ensures in
    let e = rw (c.if-not-branch.false, c.token_of.ensures) at c.in_ok-step-in-Some.ensures in
    left_read _ _ _ _ _ read e

pub returns-else-not-branch-clause-shorter : goal.returns-else-not-branch-clause-shorter
unfolding bytes_left
returns-else-not-branch-clause-shorter c =
    let read = rw c.in-Some.is at c.in_ok-operator.ensures in
    to_shorter SpellsInstr instr_at instr_meets instr_some _ _ _ read

pub returns-in-None-clause-found : goal.returns-in-None-clause-found
unfolding operators_left
returns-in-None-clause-found c =
    let same = rw c.in-None.is at c.in_ok-operator.ensures in
    rw same at c.next_of_any.ensures.found

pub returns-in-None-clause-shorter : goal.returns-in-None-clause-shorter
unfolding bytes_left
returns-in-None-clause-shorter c =
    let same = rw c.in-None.is at c.in_ok-operator.ensures in
    rw same at c.next_of_any.ensures.shorter

pub returns-in-None-clause-refused : goal.returns-in-None-clause-refused
unfolding operators_left
returns-in-None-clause-refused c =
    let same = rw c.in-None.is at c.in_ok-operator.ensures in
    rw same at c.next_of_any.ensures.refused
