use Rattle.std.proofs.Common.{refl}
use Rattle.wc_gc.proofs.MergingLemmas.{appended_longer, appended_apart}
use Rattle.wc_gc.proofs.merging.append_range.Goals as goal

pub lengthen_last-requires : goal.lengthen_last-requires
lengthen_last-requires c = let reaches = rw c.deref.ensures.value at c.if-reaches.ensures.reaches in (reaches refl (0, 0)).0

pub returns-then-reaches-clause-sorted : goal.returns-then-reaches-clause-sorted
returns-then-reaches-clause-sorted c =
    let reaches = rw c.deref.ensures.value at c.if-reaches.ensures.reaches in
    let at = reaches refl (0, 0) in
    rw c.lengthen_last.ensures (appended_longer c.args.merged.now.items c.args.first c.args.last c.requires.sorted c.requires.begun at.0 at.1 c.requires.filled).0

pub returns-then-reaches-clause-begun : goal.returns-then-reaches-clause-begun
returns-then-reaches-clause-begun c =
    let reaches = rw c.deref.ensures.value at c.if-reaches.ensures.reaches in
    let at = reaches refl (0, 0) in
    rw c.lengthen_last.ensures (appended_longer c.args.merged.now.items c.args.first c.args.last c.requires.sorted c.requires.begun at.0 at.1 c.requires.filled).1

pub returns-then-reaches-clause-has : goal.returns-then-reaches-clause-has
returns-then-reaches-clause-has c =
    let reaches = rw c.deref.ensures.value at c.if-reaches.ensures.reaches in
    let at = reaches refl (0, 0) in
    rw c.lengthen_last.ensures (appended_longer c.args.merged.now.items c.args.first c.args.last c.requires.sorted c.requires.begun at.0 at.1 c.requires.filled).2

pub returns-in_ok-push-clause-sorted : goal.returns-in_ok-push-clause-sorted
returns-in_ok-push-clause-sorted c =
    let apart = rw c.deref.ensures.value at c.if-reaches.ensures.apart in
    rw c.in_ok-push.ensures.items (appended_apart c.args.merged.now.items c.args.first c.args.last c.requires.sorted c.requires.begun (apart refl) c.requires.filled).0

pub returns-in_ok-push-clause-begun : goal.returns-in_ok-push-clause-begun
returns-in_ok-push-clause-begun c =
    let apart = rw c.deref.ensures.value at c.if-reaches.ensures.apart in
    rw c.in_ok-push.ensures.items (appended_apart c.args.merged.now.items c.args.first c.args.last c.requires.sorted c.requires.begun (apart refl) c.requires.filled).1

pub returns-in_ok-push-clause-has : goal.returns-in_ok-push-clause-has
returns-in_ok-push-clause-has c =
    let apart = rw c.deref.ensures.value at c.if-reaches.ensures.apart in
    rw c.in_ok-push.ensures.items (appended_apart c.args.merged.now.items c.args.first c.args.last c.requires.sorted c.requires.begun (apart refl) c.requires.filled).2
