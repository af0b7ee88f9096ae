use Rattle.std.proofs.Common.{◌≡◌, ◌∙◌, ◌*◌, ◌/◌, length, sym, subst, arith}
use Rattle.std.proofs.lemmas.List.{get_or_past}
use Rattle.wc_gc.specs.Private.RangeSet.{IsCut}
use Rattle.wc_gc.proofs.RangeLemmas.{cut_at}
use Rattle.wc_gc.proofs.ranks.Ranks.start.Goals as goal

pub returns-in-Some : goal.returns-in-Some
returns-in-Some c =
    let read = rw c.deref.ensures.value at c.in-Some.ensures.lookup.3 in
    let s = c.args.self.now in
    let at = s.begins (c.args.x / s.block) in
    subst (λ i. IsCut (c.args.x / s.block * s.block) s.ranges.items i) (sym (read.1 (length s.ranges.items))) (cut_at (c.args.x / s.block * s.block) s.ranges.items _ at.0 at.1 at.2)

pub returns-in-None : goal.returns-in-None
returns-in-None c =
    let past = rw c.deref.ensures.value at c.in-None.ensures.lookup.3 in
    let s = c.args.self.now in
    let count = c.len.ensures in
    let all : c.len.result ≡ length s.ranges.items = omega (arith, count) in
    let at = s.begins (c.args.x / s.block) in
    subst (λ i. IsCut (c.args.x / s.block * s.block) s.ranges.items i) (get_or_past s.starts.items (c.args.x / s.block) (length s.ranges.items) past ∙ sym all)
    (cut_at (c.args.x / s.block * s.block) s.ranges.items _ at.0 at.1 at.2)
