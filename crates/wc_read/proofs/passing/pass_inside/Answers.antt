use Rattle.std.proofs.Common.{◌≡◌, ◌-◌, length, ap, ◌∙◌, arith}
use Rattle.std.proofs.lemmas.List.{length-drop}
use Rattle.wc_read.specs.Blocks.{open_blocks}
use Rattle.wc_read.proofs.PassingLemmas.{passed_run, passed_then, passed_left}
use Rattle.wc_read.proofs.passing.pass_inside.Goals as goal

pub loop-size-init : goal.loop-size-init
loop-size-init c = (c.pass_short-rest.ensures c.args.memory (open_blocks c.args.blocks.now) c.requires, c.requires)

pub split_at-requires : goal.split_at-requires
split_at-requires c = c.in-Some.ensures.passed.2

pub loop-size-smaller : goal.loop-size-smaller
loop-size-smaller c =
    let some = c.in-Some.ensures.passed.1 in
    let within = c.in-Some.ensures.passed.2 in
    let left : length c.split_at.result.1.now ≡ length c.loop-size.rest.now - c.in-Some.size = ap length c.split_at.ensures.back ∙ length-drop c.in-Some.size c.loop-size.rest.now in
    let others = passed_left c.args.memory (open_blocks c.pass_next.new.blocks) (open_blocks c.pass_next.new.blocks) c.split_at.result.1.now c.pass_short-rest-in-Some.result.now
    (c.pass_short-rest-in-Some.ensures c.args.memory (open_blocks c.pass_next.new.blocks) c.pass_next.ensures.inside) in
    omega (arith, some, within, left, others)

pub loop-size-preserved : goal.loop-size-preserved
loop-size-preserved c =
    let more = passed_run c.args.memory (open_blocks c.args.blocks.now) (open_blocks c.loop-size.blocks) (open_blocks c.pass_next.new.blocks) c.args.input.now c.loop-size.rest.now c.split_at.result.1.now c.in-Some.size
    c.loop-size.invariant.0 c.in-Some.ensures.passed c.split_at.ensures.back in (
      passed_then c.args.memory (open_blocks c.args.blocks.now) (open_blocks c.pass_next.new.blocks) (open_blocks c.pass_next.new.blocks) c.args.input.now c.split_at.result.1.now c.pass_short-rest-in-Some.result.now
          more (c.pass_short-rest-in-Some.ensures c.args.memory (open_blocks c.pass_next.new.blocks) c.pass_next.ensures.inside),
      c.pass_next.ensures.inside,
    )
