use Rattle.std.proofs.Common.{subst}
use Rattle.std.proofs.lemmas.Result.{err_from_is_err_and}
use Rattle.wc_dedupe.specs.Dedupe.{IsDedupeCause}
use Rattle.wc_selection.proofs.main_module.MainModule.new_explained.Goals as goal

pub returns-in_err-renamed-clause-refused : goal.returns-in_err-renamed-clause-refused
returns-in_err-renamed-clause-refused c =
    let p = err_from_is_err_and c.from_residual.result c.from_residual.ensures.1 in
    rw (p.1, p.2) (subst (λ bytes. IsDedupeCause bytes c.in_err-renamed.field-0.0.fault) c.as_slice.ensures.value c.in_err-renamed.ensures.refused)
