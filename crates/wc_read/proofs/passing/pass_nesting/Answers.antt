use Rattle.std.proofs.Common.{◌∙◌, refl, true, arith}
use Rattle.wc_read.specs.Blocks.{open_blocks}
use Rattle.wc_read.proofs.PassingLemmas.{passed_none, passed_more, passes_shorter, size_within}
use Rattle.wc_read.proofs.passing.pass_nesting.Goals as goal

pub loop-size-init : goal.loop-size-init
loop-size-init c = (λ memory. passed_none memory (open_blocks c.args.blocks.now) c.args.input.now, c.requires, omega arith, λ same. refl)

pub split_at-requires : goal.split_at-requires
split_at-requires c = size_within true (open_blocks c.loop-size.blocks) (open_blocks c.pass_nesting_operator.new.blocks) c.loop-size.rest.now c.in-Some.size (c.in-Some.ensures.passed true)

pub loop-size-smaller : goal.loop-size-smaller
loop-size-smaller c =
    passes_shorter true (open_blocks c.loop-size.blocks) (open_blocks c.pass_nesting_operator.new.blocks) c.loop-size.rest.now c.in-Some.size c.split_at.result.1.now (c.in-Some.ensures.passed true) c.split_at.ensures.back

pub loop-size-preserved : goal.loop-size-preserved
loop-size-preserved c = (
  λ memory. passed_more memory (open_blocks c.args.blocks.now) (open_blocks c.loop-size.blocks) (open_blocks c.pass_nesting_operator.new.blocks) c.args.input.now c.loop-size.rest.now c.in-Some.size c.split_at.result.1.now
      (c.loop-size.invariant.0 memory) (c.in-Some.ensures.passed memory) c.split_at.ensures.back,
  c.pass_nesting_operator.ensures.inside,
  omega (arith, (passes_shorter true (open_blocks c.loop-size.blocks) (open_blocks c.pass_nesting_operator.new.blocks) c.loop-size.rest.now c.in-Some.size c.split_at.result.1.now (c.in-Some.ensures.passed true) c.split_at.ensures.back), c.loop-size.invariant.2),
  λ same. absurd (omega (arith, (passes_shorter true (open_blocks c.loop-size.blocks) (open_blocks c.pass_nesting_operator.new.blocks) c.loop-size.rest.now c.in-Some.size c.split_at.result.1.now (c.in-Some.ensures.passed true) c.split_at.ensures.back), c.loop-size.invariant.2, same)),
)

pub returns-clause-passed : goal.returns-clause-passed
returns-clause-passed c = λ memory. rw (c.in_default.ensures.passed memory) (c.loop-size.invariant.0 memory)

pub returns-clause-kept : goal.returns-clause-kept
returns-clause-kept c = λ same. c.in_default.ensures.passed true ∙ c.loop-size.invariant.3 same
