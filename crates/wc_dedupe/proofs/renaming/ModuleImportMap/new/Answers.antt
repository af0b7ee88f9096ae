use Rattle.std.proofs.lemmas.Result.{err_from_is_err_and}
use Rattle.wc_dedupe.proofs.renaming.ModuleImportMap.new.Goals as goal

pub returns-in_err-bytes-clause-refused : goal.returns-in_err-bytes-clause-refused
returns-in_err-bytes-clause-refused c =
    let p = err_from_is_err_and c.from_residual.result c.from_residual.ensures.1 in
    rw (p.1, p.2) (rw c.as_slice.ensures.value at c.in_err-bytes.ensures.refused)

pub returns-in-Some-clause-dedupe : goal.returns-in-Some-clause-dedupe
returns-in-Some-clause-dedupe c =
    let renamed = rw c.in-Some.is at c.in_ok-bytes.ensures.renamed in
    rw c.as_slice.ensures.value at renamed.1
