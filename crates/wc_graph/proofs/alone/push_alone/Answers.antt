use Rattle.std.proofs.Common.{◌≡◌, ◌<◌, ◌≤◌, ◌-◌, ◌+◌, ℕ, length, refl, rules, subst, sym, arith}
use Rattle.wc_graph.specs.Private.Alone.{AreAppended, IsAloneBy}
use Rattle.wc_graph.proofs.AloneLemmas.{appended_next}
use Rattle.wc_graph.proofs.alone.push_alone.Goals as goal

pub loop-position-preserved : goal.loop-position-preserved
loop-position-preserved c =
    let old = c.args.found.now.items in
    let k = c.loop-position.position in
    let n : c.len-start.result ≡ length old = search rules in
    let from : length old ≤ k = omega arith in
    let e = c.end_of-end.ensures in
    let t = c.loop-position-test.true in
    let fits : k - length old < 63 = omega (arith, e, t, from) in
    subst (AreAppended c.args.words.now c.args.items.now (k + 1) old) (sym c.in_ok-push.ensures.items)
    (appended_next c.args.words.now c.args.items.now k (k - length old) old c.loop-position.found.items c.in_ok-one.one from refl fits
    (subst (λ (z : ℕ). IsAloneBy c.args.words.now c.args.items.now (k - z) c.in_ok-one.one) n c.in_ok-one.ensures)
    c.loop-position.invariant)
