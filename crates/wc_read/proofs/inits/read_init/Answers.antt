use Rattle.std.proofs.lemmas.Result.{err_from_is_err_and}
use Rattle.wc_read.specs.Inits.{SpellsInit}
use Rattle.wc_read.specs.Reading.Inits.{init_at}
use Rattle.wc_read.proofs.MeetsLemmas.{no_value, left_over, none_left}
use Rattle.wc_read.proofs.InitsLemmas.{init_meets}
use Rattle.wc_read.proofs.inits.read_init.Goals as goal

pub returns-in_err-operators-clause-refused : goal.returns-in_err-operators-clause-refused
returns-in_err-operators-clause-refused c =
    let p = err_from_is_err_and c.from_residual.result c.from_residual.ensures.1 in
    rw (p.1, p.2) (λ real v s. no_value SpellsInit init_at init_meets _ (c.in_err-operators.ensures.0 real) v (rw c.new-reader.ensures s))

pub returns-then-not-is_empty-clause-refused : goal.returns-then-not-is_empty-clause-refused
returns-then-not-is_empty-clause-refused c = λ _ v s. left_over SpellsInit init_at init_meets _ _ _ c.in_ok-operators.ensures c.if-not-is_empty.ensures v (rw c.new-reader.ensures s)

pub returns-clause-found : goal.returns-clause-found
returns-clause-found c = rw c.new-reader.ensures at (none_left SpellsInit init_at init_meets _ _ _ c.in_ok-operators.ensures c.if-not-is_empty.ensures)
