use Rattle.std.proofs.Common.{refl, rules, arith}
use Rattle.wc_gc.proofs.StartLemmas.{start_pushed}
use Rattle.wc_gc.proofs.ranks.append_starts.Goals as goal

pub loop-init : goal.loop-init
loop-init c = record {
  long = search rules;
  kept = λ b lt. refl;
  added = λ b le lt. absurd (omega arith);
}

pub loop-preserved : goal.loop-preserved
loop-preserved c =
    let v = c.loop.invariant in
    let test = c.loop-test.true in
    let from = c.loop.auto.counter in
    let more = start_pushed c.args.starts.now.items c.loop.starts.items c.args.block c.args.index c.loop.counter v.long (omega (arith, from)) (omega (arith, test)) v.kept v.added in
    record {
      long = search (arith, c.in_ok-push.ensures.len, v.long);
      kept = rw c.in_ok-push.ensures.items more.0;
      added = rw c.in_ok-push.ensures.items more.1;
    }

pub returns-clause-past : goal.returns-clause-past
returns-clause-past c =
    let done = c.loop-test.false in
    let long = c.loop.invariant.long in
    omega (arith, done, long)
