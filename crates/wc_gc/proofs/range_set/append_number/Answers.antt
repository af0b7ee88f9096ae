use Rattle.std.proofs.Common.{◌≡◌, refl, length, arith}
use Rattle.wc_gc.proofs.RangeLemmas.{in_none, longer_is_put, put_last}
use Rattle.wc_gc.proofs.range_set.append_number.Goals as goal

pub overflow_sub-count : goal.overflow_sub-count
overflow_sub-count c = let h = (c.if-ends_before.ensures.ends refl (0, 0)).0 in omega (arith, h)

pub index_mut-requires : goal.index_mut-requires
index_mut-requires c =
    let h = (c.if-ends_before.ensures.ends refl (0, 0)).0 in
    let count = c.len-count.ensures in
    omega (arith, h, count)

pub returns-then-ends_before-clause-absent : goal.returns-then-ends_before-clause-absent
returns-then-ends_before-clause-absent c = in_none c.args.x c.args.ranges.now.items (length c.args.ranges.now.items) c.requires.cut (omega arith)

pub returns-then-ends_before-clause-sorted : goal.returns-then-ends_before-clause-sorted
returns-then-ends_before-clause-sorted c =
    let v = c.index_mut.ensures.value in
    let count = c.len-count.ensures in
    let ends = rw c.deref.ensures.value at c.if-ends_before.ensures.ends in
    let e = ends refl c.index_mut.result.now in
    (longer_is_put c.args.ranges.now.items c.args.x c.len-count.result c.index_mut.result.now c.requires.sorted e.0 (omega (arith, count)) e.1 (λ d lt. absurd (omega (arith, count))) v).0

pub returns-then-ends_before-clause-inserts : goal.returns-then-ends_before-clause-inserts
returns-then-ends_before-clause-inserts c =
    let v = c.index_mut.ensures.value in
    let count = c.len-count.ensures in
    let ends = rw c.deref.ensures.value at c.if-ends_before.ensures.ends in
    let e = ends refl c.index_mut.result.now in
    (longer_is_put c.args.ranges.now.items c.args.x c.len-count.result c.index_mut.result.now c.requires.sorted e.0 (omega (arith, count)) e.1 (λ d lt. absurd (omega (arith, count))) v).1

pub returns-in_ok-push-clause-absent : goal.returns-in_ok-push-clause-absent
returns-in_ok-push-clause-absent c = in_none c.args.x c.args.ranges.now.items (length c.args.ranges.now.items) c.requires.cut (omega arith)

pub returns-in_ok-push-clause-sorted : goal.returns-in_ok-push-clause-sorted
returns-in_ok-push-clause-sorted c =
    let apart = rw c.deref.ensures.value at c.if-ends_before.ensures.apart in
    rw c.in_ok-push.ensures.items (put_last c.args.ranges.now.items c.args.x c.len-count.result c.requires.sorted (let count = c.len-count.ensures in let last : c.len-count.result ≡ length c.args.ranges.now.items = omega (arith, count) in last) (apart refl)).0

pub returns-in_ok-push-clause-inserts : goal.returns-in_ok-push-clause-inserts
returns-in_ok-push-clause-inserts c =
    let apart = rw c.deref.ensures.value at c.if-ends_before.ensures.apart in
    rw c.in_ok-push.ensures.items (put_last c.args.ranges.now.items c.args.x c.len-count.result c.requires.sorted (let count = c.len-count.ensures in let last : c.len-count.result ≡ length c.args.ranges.now.items = omega (arith, count) in last) (apart refl)).1

pub returns-in_err-push-clause-absent : goal.returns-in_err-push-clause-absent
returns-in_err-push-clause-absent c = in_none c.args.x c.args.ranges.now.items (length c.args.ranges.now.items) c.requires.cut (omega arith)
