use Rattle.std.proofs.Common.{arith, refl}
use Rattle.wc_gc.proofs.RangeLemmas.{joined_is_put, longer_is_put, earlier_is_put, put_is}
use Rattle.wc_gc.proofs.range_set.put_at.Goals as goal

pub join-requires-clause-after : goal.join-requires-clause-after
join-requires-clause-after c = (c.if-ends_before.ensures.ends refl (0, 0)).0

pub join-requires-clause-within : goal.join-requires-clause-within
join-requires-clause-within c = let begins = rw c.deref-then-ends_before.ensures.value at c.if-begins_after.ensures.begins in (begins refl (0, 0)).0

pub overflow_sub-index : goal.overflow_sub-index
overflow_sub-index c = let h = (c.if-ends_before.ensures.ends refl (0, 0)).0 in omega (arith, h)

pub index_mut-requires : goal.index_mut-requires
index_mut-requires c = let h = (c.if-ends_before.ensures.ends refl (0, 0)).0 in let w = c.requires.within in omega (arith, h, w)

pub index_mut-requires-then-begins_after-2 : goal.index_mut-requires-then-begins_after-2
index_mut-requires-then-begins_after-2 c =
    let begins = rw c.deref-else-ends_before.ensures.value at c.if-begins_after-2.ensures.begins in
    let h = (begins refl (0, 0)).0 in
    omega (arith, h)

pub returns-then-begins_after-clause-sorted : goal.returns-then-begins_after-clause-sorted
returns-then-begins_after-clause-sorted c =
    let ends = rw c.deref.ensures.value at c.if-ends_before.ensures.ends in
    let begins = rw c.deref-then-ends_before.ensures.value at c.if-begins_after.ensures.begins in
    let e = ends refl (0, 0) in
    let b = begins refl (0, 0) in
    let put = joined_is_put c.args.ranges.now.items c.args.x c.args.index c.requires.sorted e.0 b.0 e.1 b.1 in
    rw c.join.ensures put.0

pub returns-then-begins_after-clause-inserts : goal.returns-then-begins_after-clause-inserts
returns-then-begins_after-clause-inserts c =
    let ends = rw c.deref.ensures.value at c.if-ends_before.ensures.ends in
    let begins = rw c.deref-then-ends_before.ensures.value at c.if-begins_after.ensures.begins in
    let e = ends refl (0, 0) in
    let b = begins refl (0, 0) in
    let put = joined_is_put c.args.ranges.now.items c.args.x c.args.index c.requires.sorted e.0 b.0 e.1 b.1 in
    rw c.join.ensures put.1

pub returns-else-begins_after-clause-inserts : goal.returns-else-begins_after-clause-inserts
returns-else-begins_after-clause-inserts c =
    let v = c.index_mut.ensures.value in
    let ends = rw c.deref.ensures.value at c.if-ends_before.ensures.ends in
    let apart = rw c.deref-then-ends_before.ensures.value at c.if-begins_after.ensures.apart in
    let e = ends refl c.index_mut.result.now in
    let put = longer_is_put c.args.ranges.now.items c.args.x c.args.index c.index_mut.result.now c.requires.sorted e.0 c.requires.within e.1 (apart refl) v in
    put.1

pub returns-else-begins_after-clause-sorted : goal.returns-else-begins_after-clause-sorted
returns-else-begins_after-clause-sorted c =
    let v = c.index_mut.ensures.value in
    let ends = rw c.deref.ensures.value at c.if-ends_before.ensures.ends in
    let apart = rw c.deref-then-ends_before.ensures.value at c.if-begins_after.ensures.apart in
    let e = ends refl c.index_mut.result.now in
    let put = longer_is_put c.args.ranges.now.items c.args.x c.args.index c.index_mut.result.now c.requires.sorted e.0 c.requires.within e.1 (apart refl) v in
    put.0

pub returns-then-begins_after-2-clause-inserts : goal.returns-then-begins_after-2-clause-inserts
returns-then-begins_after-2-clause-inserts c =
    let v = c.index_mut-then-begins_after-2.ensures.value in
    let apart = rw c.deref.ensures.value at c.if-ends_before.ensures.apart in
    let begins = rw c.deref-else-ends_before.ensures.value at c.if-begins_after-2.ensures.begins in
    let b = begins refl c.index_mut-then-begins_after-2.result.now in
    let put = earlier_is_put c.args.ranges.now.items c.args.x c.args.index c.index_mut-then-begins_after-2.result.now c.requires.sorted b.0 b.1 (apart refl) v in
    put.1

pub returns-then-begins_after-2-clause-sorted : goal.returns-then-begins_after-2-clause-sorted
returns-then-begins_after-2-clause-sorted c =
    let v = c.index_mut-then-begins_after-2.ensures.value in
    let apart = rw c.deref.ensures.value at c.if-ends_before.ensures.apart in
    let begins = rw c.deref-else-ends_before.ensures.value at c.if-begins_after-2.ensures.begins in
    let b = begins refl c.index_mut-then-begins_after-2.result.now in
    let put = earlier_is_put c.args.ranges.now.items c.args.x c.args.index c.index_mut-then-begins_after-2.result.now c.requires.sorted b.0 b.1 (apart refl) v in
    put.0

pub returns-in_ok-insert-clause-sorted : goal.returns-in_ok-insert-clause-sorted
returns-in_ok-insert-clause-sorted c =
    let ends = rw c.deref.ensures.value at c.if-ends_before.ensures.apart in
    let begins = rw c.deref-else-ends_before.ensures.value at c.if-begins_after-2.ensures.apart in
    let put = put_is c.args.ranges.now.items c.args.x c.args.index c.requires.sorted c.requires.within (ends refl) (begins refl) in
    rw c.in_ok-insert.ensures.items put.0

pub returns-in_ok-insert-clause-inserts : goal.returns-in_ok-insert-clause-inserts
returns-in_ok-insert-clause-inserts c =
    let ends = rw c.deref.ensures.value at c.if-ends_before.ensures.apart in
    let begins = rw c.deref-else-ends_before.ensures.value at c.if-begins_after-2.ensures.apart in
    let put = put_is c.args.ranges.now.items c.args.x c.args.index c.requires.sorted c.requires.within (ends refl) (begins refl) in
    rw c.in_ok-insert.ensures.items put.1
