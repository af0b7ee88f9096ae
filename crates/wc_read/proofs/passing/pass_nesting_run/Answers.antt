use Rattle.std.proofs.Common.{true, arith}
use Rattle.wc_read.specs.Blocks.{open_blocks}
use Rattle.wc_read.proofs.PassingLemmas.{run_of_passed, passed_left}
use Rattle.wc_read.proofs.passing.pass_nesting_run.Goals as goal

pub overflow_sub-size : goal.overflow_sub-size
overflow_sub-size c = passed_left true (open_blocks c.args.blocks.now) (open_blocks c.pass_nesting-rest.new.blocks) c.args.input.now c.pass_nesting-rest.result.now (c.pass_nesting-rest.ensures.passed true)

pub returns-then-size-eq0-clause-passed : goal.returns-then-size-eq0-clause-passed
returns-then-size-eq0-clause-passed c = λ memory.
    let within = passed_left true (open_blocks c.args.blocks.now) (open_blocks c.pass_nesting-rest.new.blocks) c.args.input.now c.pass_nesting-rest.result.now (c.pass_nesting-rest.ensures.passed true) in
    c.pass_nesting-rest.ensures.kept (omega (arith, within))

pub returns-else-size-eq0-clause-passed : goal.returns-else-size-eq0-clause-passed
returns-else-size-eq0-clause-passed c = λ memory.
    run_of_passed memory (open_blocks c.args.blocks.now) (open_blocks c.pass_nesting-rest.new.blocks) c.args.input.now c.pass_nesting-rest.result.now (c.pass_nesting-rest.ensures.passed memory) (omega arith)
