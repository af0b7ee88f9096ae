use Rattle.std.proofs.Common.{refl, ap, Err}
use Rattle.std.proofs.lemmas.Result.{err_from_is_err_and}
use Rattle.wc_dedupe.proofs.DedupeLemmas.{same_bytes, other_bytes, too_large, cause_of_read, cause_of_write, some_of, none_of, no_component}
use Rattle.wc_dedupe.proofs.dedupe.dedupe.Goals as goal

pub returns-in_default : goal.returns-in_default
returns-in_default c =
    let outside = no_component _ _ c.in-Err.ensures.component.1 c.in_default.not-Component in
    rw c.from.ensures (record {
      renamed = tt;
      same = tt;
      component = λ is. absurd (outside is);
      refused = cause_of_read _ _ c.in_default.not-Component outside c.in-Err.ensures.refused;
    })

pub returns-then-is_empty-clause-same : goal.returns-then-is_empty-clause-same
returns-then-is_empty-clause-same c = λ _.
    let none = none_of _ _ c.renames-renames.ensures c.if-is_empty.ensures in
    same_bytes _ _ _ _ _ c.in-Ok.ensures.found refl (rw c.deref.ensures.value at c.in_ok-renaming.ensures) none

pub returns-in_err-written-clause-refused : goal.returns-in_err-written-clause-refused
returns-in_err-written-clause-refused c =
    let p = err_from_is_err_and c.from_residual-in_err-written.result c.from_residual-in_err-written.ensures.1 in
    let some = some_of _ _ c.renames-renames.ensures c.if-is_empty.ensures in
    rw (p.1, p.2) (cause_of_write _ _ (λ large.
    too_large _ _ _ _ _ c.in-Ok.ensures.found refl (rw c.deref.ensures.value at c.in_ok-renaming.ensures) some
    (rw (c.renames-renames.ensures, c.deref-2.ensures.value, c.deref-3.ensures.value) at (c.in_err-written.ensures.too_large (ap Err large)))))

pub returns-clause-renamed : goal.returns-clause-renamed
returns-clause-renamed c =
    let some = some_of _ _ c.renames-renames.ensures c.if-is_empty.ensures in (
      some,
      other_bytes _ _ _ _ _ _ c.in-Ok.ensures.found refl (rw c.deref.ensures.value at c.in_ok-renaming.ensures) some
          (rw (c.renames-renames.ensures, c.deref-2.ensures.value, c.deref-3.ensures.value) at c.in_ok-written.ensures.written)
          (rw (c.renames-renames.ensures, c.deref-2.ensures.value, c.deref-3.ensures.value) at (c.in_ok-written.ensures.fits refl)),
    )
