use Rattle.std.proofs.Common.{◌∙◌}
use Rattle.wc_read.specs.Blocks.{open_blocks}
use Rattle.wc_read.specs.BodyOperators.{operators_left, bytes_left}
use Rattle.wc_read.proofs.PassingLemmas.{passed_left, passed_text}
use Rattle.wc_read.proofs.body_operators.Operators.pass.Goals as goal

pub returns-clause-passed : goal.returns-clause-passed
unfolding operators_left
returns-clause-passed c =
    let s = c.pass_operators-rest.ensures in
    (s.operators, (c.split_at.ensures.front ∙ passed_text c.args.memory (open_blocks c.args.self.now.blocks) (open_blocks c.pass_operators-rest.new.blocks) c.args.self.now.reader.rest.now c.pass_operators-rest.result.now s, s.passable), s.same)

pub returns-clause-not_longer : goal.returns-clause-not_longer
unfolding bytes_left
returns-clause-not_longer c = passed_left c.args.memory (open_blocks c.args.self.now.blocks) (open_blocks c.pass_operators-rest.new.blocks) c.args.self.now.reader.rest.now c.pass_operators-rest.result.now c.pass_operators-rest.ensures
