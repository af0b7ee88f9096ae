use Rattle.std.proofs.Common.{◌*◌, ◌-◌, ◌<◌, inl, inr, arith}
use Rattle.std.proofs.lemmas.Bool.Decides.{nat_tests}
use Rattle.wc_read.proofs.ShortestTextLemmas.{all_out, shifted_out}
use Rattle.wc_read.proofs.text_sizes.is_shortest.Goals as goal

pub returns-then-size-le-MOST_BYTES-clause-shortest : goal.returns-then-size-le-MOST_BYTES-clause-shortest
returns-then-size-le-MOST_BYTES-clause-shortest c = λ h _. (c.if-size-le-MOST_BYTES.true, shifted_out c.args.number (7 * (c.args.size - 1)) h)

pub returns-then-size-le-MOST_BYTES-clause-longer : goal.returns-then-size-le-MOST_BYTES-clause-longer
returns-then-size-le-MOST_BYTES-clause-longer c = λ h.
    let two : 1 < c.args.size = grind (arith, nat_tests) in
    (two, inr (all_out c.args.number (7 * (c.args.size - 1)) h))

pub returns-else-size-le-MOST_BYTES-clause-longer : goal.returns-else-size-le-MOST_BYTES-clause-longer
returns-else-size-le-MOST_BYTES-clause-longer c = λ _.
    let many : 10 < c.args.size = grind (arith, nat_tests) in
    let two : 1 < c.args.size = omega arith in
    (two, inl many)
