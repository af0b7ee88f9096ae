use Rattle.std.proofs.Common.{refl, arith}
use Rattle.std.proofs.lemmas.Nat.{le_or_l, or_lt}
use Rattle.wc_graph.proofs.labels.joined.Goals as goal

pub returns-else-all-old : goal.returns-else-all-old
returns-else-all-old c = record {
  is = refl;
  more = let l = le_or_l c.args.old c.args.word in let n = c.if-all-old.false in omega (arith, l, n);
  fits = or_lt 64 c.args.old c.args.word c.ranges.old.fits c.ranges.word.fits;
}
