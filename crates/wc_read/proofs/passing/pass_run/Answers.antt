use Rattle.wc_read.specs.Blocks.{open_blocks}
use Rattle.wc_read.proofs.PassingLemmas.{end_passed}
use Rattle.wc_read.proofs.passing.pass_run.Goals as goal

pub returns-in-Some : goal.returns-in-Some
returns-in-Some c =
    end_passed c.args.memory (open_blocks c.args.blocks.now) (open_blocks c.pass_inside-rest.new.blocks) (open_blocks c.close.new.self) c.args.input.now c.pass_inside-rest.result.now _ c.in-Some.left.now c.close.result
    c.pass_inside-rest.ensures.passed c.pass_inside-rest.ensures.inside c.in-Some.ensures.cases.0 c.if-first-eq-END.true c.close.ensures
