use Rattle.std.proofs.Common.{◌≡◌, ◌-◌, ◌+◌, suc, arith}
use Rattle.std.proofs.lemmas.List.{map-append}
use Rattle.std.proofs.lemmas.Result.{err_from_is_err_and}
use Rattle.wc_read.proofs.CountedLemmas.{part_end, part_fails, part_more}
use Rattle.wc_read.proofs.reader.Reader.vector.Goals as goal

pub returns-in_err-item : goal.returns-in_err-item
returns-in_err-item g c =
    let p = err_from_is_err_and c.from_residual-in_err-item.result c.from_residual-in_err-item.ensures.1 in
    let left : c.in_ok-count.count - c.loop.counter ≡ suc (c.in_ok-count.count - (c.loop.counter + 1)) = omega arith in
    rw (p.1, p.2) ((λ real. part_fails _ _ _ _ _ (rw left at c.loop.invariant) (c.in_err-item.ensures.0 real)), c.in_err-item.ensures.1)

pub loop-preserved : goal.loop-preserved
loop-preserved g c =
    let left : c.in_ok-count.count - c.loop.counter ≡ suc (c.in_ok-count.count - (c.loop.counter + 1)) = omega arith in
    rw (c.in_ok-push.ensures.items, map-append) (part_more _ _ _ _ _ _ _ (rw left at c.loop.invariant) c.in_ok-item.ensures)

pub returns : goal.returns
returns g c =
    let left : c.in_ok-count.count - c.loop.counter ≡ 0 = omega arith in
    part_end _ _ _ _ (rw left at c.loop.invariant)
