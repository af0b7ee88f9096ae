use Rattle.wc_read.specs.Modules.{module_value}
use Rattle.std.proofs.lemmas.Result.{err_from_is_err_and}
use Rattle.wc_read.proofs.ModulesLemmas.{module_found, module_refused}
use Rattle.wc_read.proofs.modules.read_module.Goals as goal

pub returns-in_err-frames-clause-refused : goal.returns-in_err-frames-clause-refused
returns-in_err-frames-clause-refused c =
    let p = err_from_is_err_and c.from_residual.result c.from_residual.ensures.1 in
    rw (p.1, p.2) (λ real v s. c.in_err-frames.ensures.refused real s.sections s.has_frames)

pub returns-clause-found : goal.returns-clause-found
returns-clause-found c = module_found module_value _ _ _ c.in_ok-frames.ensures.found (rw c.deref.ensures.value at c.module_from.ensures.found)

pub returns-clause-refused : goal.returns-clause-refused
returns-clause-refused c = module_refused _ _ _ c.in_ok-frames.ensures.found (rw c.deref.ensures.value at c.module_from.ensures.refused)
