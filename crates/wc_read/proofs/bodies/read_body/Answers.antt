use Rattle.std.proofs.lemmas.List.{map-id}
use Rattle.std.proofs.lemmas.Result.{err_from_is_err_and}
use Rattle.wc_read.proofs.BodiesLemmas.{no_locals, too_many, no_operators, no_nesting, body_is}
use Rattle.wc_read.proofs.bodies.read_body.Goals as goal

pub returns-in_err-locals-clause-refused : goal.returns-in_err-locals-clause-refused
returns-in_err-locals-clause-refused c =
    let p = err_from_is_err_and c.from_residual.result c.from_residual.ensures.1 in
    rw (p.1, p.2) (λ real v s. no_locals _ (c.in_err-locals.ensures.0 real) v (rw c.new-reader.ensures s))

pub returns-then-not-counts_fit_u32-clause-refused : goal.returns-then-not-counts_fit_u32-clause-refused
returns-then-not-counts_fit_u32-clause-refused c =
    let read = rw map-id at c.in_ok-locals.ensures in
    λ _ v s. too_many _ _ _ read (rw c.deref.ensures.value at c.if-not-counts_fit_u32.ensures) v (rw c.new-reader.ensures s)

pub returns-in_err-operators-clause-refused : goal.returns-in_err-operators-clause-refused
returns-in_err-operators-clause-refused c =
    let p = err_from_is_err_and c.from_residual-in_err-operators.result c.from_residual-in_err-operators.ensures.1 in
    let read = rw map-id at c.in_ok-locals.ensures in
    rw (p.1, p.2) (λ real v s. no_operators _ _ _ read (c.in_err-operators.ensures.refused real) v (rw c.new-reader.ensures s))

pub returns-then-not-branch-clause-refused : goal.returns-then-not-branch-clause-refused
returns-then-not-branch-clause-refused c =
    let read = rw map-id at c.in_ok-locals.ensures in
    let not = rw (c.if-not-branch.true, c.deref-2.ensures.value) at c.in_ok-nests.ensures in
    λ _ v s. no_nesting _ _ _ read _ c.in_ok-operators.ensures.found not v (rw c.new-reader.ensures s)

pub returns-clause-found : goal.returns-clause-found
returns-clause-found c =
    let read = rw map-id at c.in_ok-locals.ensures in
    let bounded = rw c.deref.ensures.value at c.if-not-counts_fit_u32.ensures in
    let nested = rw (c.if-not-branch.false, c.deref-2.ensures.value) at c.in_ok-nests.ensures in
    rw c.new-reader.ensures at (body_is _ _ _ read bounded _ c.in_ok-operators.ensures.found nested)
