use Rattle.std.proofs.Common.{sym, ◌∙◌}
use Rattle.wc_read.specs.Blocks.{open_blocks}
use Rattle.wc_read.proofs.PassingLemmas.{block_passes, if_passes, else_passes, end_passes}
use Rattle.wc_read.proofs.passing.pass_nesting_operator.Goals as goal

pub returns-in-Block-clause-passed : goal.returns-in-Block-clause-passed
returns-in-Block-clause-passed c = λ memory.
    block_passes memory c.args.input.now _ _ (open_blocks c.args.blocks.now) (open_blocks c.pass_block_start.new.blocks) c.pass_block_start.result c.in_ok-first.ensures.cases.0 (sym c.in-Block.is ∙ c.pass_kind.ensures) c.requires c.pass_block_start.ensures

pub returns-in-If-clause-passed : goal.returns-in-If-clause-passed
returns-in-If-clause-passed c = λ memory.
    if_passes memory c.args.input.now _ _ (open_blocks c.args.blocks.now) (open_blocks c.pass_block_start-in-If.new.blocks) c.pass_block_start-in-If.result c.in_ok-first.ensures.cases.0 (sym c.in-If.is ∙ c.pass_kind.ensures) c.requires c.pass_block_start-in-If.ensures

pub returns-in-Else-clause-passed : goal.returns-in-Else-clause-passed
returns-in-Else-clause-passed c = λ memory.
    else_passes memory c.args.input.now _ _ (open_blocks c.args.blocks.now) (open_blocks c.begin_else_in_word.new.self) c.begin_else_in_word.result c.one_byte_if.result c.in_ok-first.ensures.cases.0 (sym c.in-Else.is ∙ c.pass_kind.ensures) c.one_byte_if.ensures c.begin_else_in_word.ensures

pub returns-in-End-clause-passed : goal.returns-in-End-clause-passed
returns-in-End-clause-passed c = λ memory.
    end_passes memory c.args.input.now _ _ (open_blocks c.args.blocks.now) (open_blocks c.close_in_word.new.self) c.close_in_word.result c.one_byte_if-in-End.result c.in_ok-first.ensures.cases.0 (sym c.in-End.is ∙ c.pass_kind.ensures) c.one_byte_if-in-End.ensures c.close_in_word.ensures
