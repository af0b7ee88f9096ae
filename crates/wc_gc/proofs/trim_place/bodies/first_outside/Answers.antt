use Rattle.std.proofs.Common.{◌<◌, length, sym, ◌∙◌, rules}
use Rattle.wc_read.specs.Decoded.{decoded_module}
use Rattle.wc_gc.proofs.TrimPlaceLemmas.{outside_at}
use Rattle.wc_gc.proofs.trim_place.bodies.first_outside.Goals as goal

pub returns-then-not-branch : goal.returns-then-not-branch
returns-then-not-branch c =
    let within : c.loop-index.index < length c.args.code.now = search rules in
    outside_at (decoded_module c.args.adapter.now) c.args.code.now c.loop-index.index c.index-code-index.result within c.index-code-index.is
    c.loop-index.invariant (sym c.in_ok-reach_operator.ensures.in_range ∙ c.if-not-branch.true)
