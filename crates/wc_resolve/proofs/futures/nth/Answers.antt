use Rattle.std.proofs.Common.{◌∙◌, arith}
use Rattle.wc_resolve.proofs.futures.nth.Goals as goal

pub parts-smaller : goal.parts-smaller
parts-smaller c = c.in-Some.ensures.found.shorter

pub parts-preserved : goal.parts-preserved
parts-preserved c =
    let found = c.in-Some.ensures.found in
    let low = found.low in
    let before = c.parts.invariant.small in
    record {
      there = found.within;
      small = omega (arith, low, before);
      more = found.more;
      same = c.parts.invariant.same ∙ found.same;
    }

pub returns : goal.returns
returns c = c.parts.invariant.same ∙ c.in_default.ensures.itself c.parts.invariant.more
