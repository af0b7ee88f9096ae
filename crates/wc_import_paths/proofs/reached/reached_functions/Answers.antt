use Rattle.std.proofs.lemmas.Result.{err_from_is_err_and}
use Rattle.wc_paths.proofs.PathLemmas.{both_closed, fault_first, fault_second}
use Rattle.wc_import_paths.proofs.ReachedLemmas.{reached_by}
use Rattle.wc_import_paths.proofs.reached.reached_functions.Goals as goal

pub returns-in_err-found-clause-fault : goal.returns-in_err-found-clause-fault
returns-in_err-found-clause-fault c g h =
    let p = err_from_is_err_and c.from_residual.result c.from_residual.ensures.1 in
    rw (p.1, p.2) (fault_first g c.args.first.now c.args.second.now _ (c.in_err-found.ensures.fault g h))

pub returns-in_err-others-clause-fault : goal.returns-in_err-others-clause-fault
returns-in_err-others-clause-fault c g h =
    let p = err_from_is_err_and c.from_residual-in_err-others.result c.from_residual-in_err-others.ensures.1 in
    rw (p.1, p.2) (fault_second g c.args.first.now c.args.second.now _ (c.in_err-others.ensures.fault g h))

pub returns-clause-closed : goal.returns-clause-closed
returns-clause-closed c g h ok =
    both_closed g c.args.first.now c.args.second.now (c.in_ok-found.ensures.closed g h ok) (c.in_ok-others.ensures.closed g h ok)

pub returns-clause-reached : goal.returns-clause-reached
returns-clause-reached c g h =
    reached_by g c.args.rows.now h c.args.first.now c.args.second.now c.in_ok-found.found.items c.in_ok-others.others.items
    (c.in_ok-found.ensures.found g h) (c.in_ok-others.ensures.found g h) c.deref.result.now c.deref.ensures.value c.deref-2.result.now
    c.deref-2.ensures.value c.in_ok-marked.field-0.items c.in_ok-marked.ensures
