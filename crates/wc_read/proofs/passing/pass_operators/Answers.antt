use Rattle.std.proofs.Common.{◌≢◌, [], rules}
use Rattle.wc_read.specs.Blocks.{open_blocks}
use Rattle.wc_read.proofs.PassingLemmas.{end_passed, passed_none}
use Rattle.wc_read.proofs.passing.pass_operators.Goals as goal

pub returns-in-Some : goal.returns-in-Some
returns-in-Some c =
    let inside : open_blocks c.args.blocks.now ≢ [] = search rules in
    end_passed c.args.memory (open_blocks c.args.blocks.now) (open_blocks c.args.blocks.now) (open_blocks c.close.new.self) c.args.input.now c.args.input.now _ c.in-Some.left.now c.close.result
    (passed_none c.args.memory (open_blocks c.args.blocks.now) c.args.input.now) inside c.in-Some.ensures.cases.0 c.if-first-eq-END.true c.close.ensures
