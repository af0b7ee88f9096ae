use Rattle.std.proofs.Common.{ℕ, nat_le, sym, ap, ◌∙◌}
use Rattle.wc_gc.proofs.RangeLemmas.{are_from, in_at, in_none}
use Rattle.wc_gc.proofs.range_set.has_at.Goals as goal

pub returns-in-Some : goal.returns-in-Some
returns-in-Some c =
    let read = c.in-Some.ensures.lookup.3 in
    ap (λ (r : ℕ × ℕ). nat_le r.0 c.args.x) (read.1 c.in-Some.range.now)
    ∙ sym (in_at 0 c.args.x c.args.ranges.now c.args.index c.in-Some.range.now (are_from c.args.ranges.now c.requires.sorted) c.requires.cut read.0)

pub returns-in-None : goal.returns-in-None
returns-in-None c = sym (in_none c.args.x c.args.ranges.now c.args.index c.requires.cut c.in-None.ensures.lookup.3)
