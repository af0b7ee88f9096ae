use Rattle.std.proofs.Common.{sym, ◌∙◌}
use Rattle.wc_read.specs.Blocks.{open_blocks}
use Rattle.wc_read.proofs.PassingLemmas.{code_only_over, index_over, i32_over, i64_over, four_over, eight_over, mem_arg_over, memory_index_over, labels_over, run_of_size}
use Rattle.wc_read.proofs.passing.pass_next.Goals as goal

pub returns-in-CodeOnly-clause-passed : goal.returns-in-CodeOnly-clause-passed
returns-in-CodeOnly-clause-passed c =
    run_of_size c.args.memory (open_blocks c.args.blocks.now) (open_blocks c.args.blocks.now) c.args.input.now _ (code_only_over c.args.memory c.args.input.now _ _ (open_blocks c.args.blocks.now) c.in_ok-first.ensures.cases.0 (sym c.in-CodeOnly.is ∙ c.pass_kind.ensures) c.requires)

pub returns-in_ok-number_size-in-Index-clause-passed : goal.returns-in_ok-number_size-in-Index-clause-passed
returns-in_ok-number_size-in-Index-clause-passed c =
    run_of_size c.args.memory (open_blocks c.args.blocks.now) (open_blocks c.args.blocks.now) c.args.input.now _ (index_over c.args.memory c.args.input.now _ _ (open_blocks c.args.blocks.now) c.in_ok-number_size-in-Index.field-0 c.in_ok-first.ensures.cases.0 (sym c.in-Index.is ∙ c.pass_kind.ensures) c.requires c.in_ok-number_size-in-Index.ensures)

pub returns-in_ok-signed_size-in-I32-clause-passed : goal.returns-in_ok-signed_size-in-I32-clause-passed
returns-in_ok-signed_size-in-I32-clause-passed c =
    run_of_size c.args.memory (open_blocks c.args.blocks.now) (open_blocks c.args.blocks.now) c.args.input.now _ (i32_over c.args.memory c.args.input.now _ _ (open_blocks c.args.blocks.now) c.in_ok-signed_size-in-I32.field-0 c.in_ok-first.ensures.cases.0 (sym c.in-I32.is ∙ c.pass_kind.ensures) c.requires c.in_ok-signed_size-in-I32.ensures)

pub returns-in_ok-signed_size-in-I64-clause-passed : goal.returns-in_ok-signed_size-in-I64-clause-passed
returns-in_ok-signed_size-in-I64-clause-passed c =
    run_of_size c.args.memory (open_blocks c.args.blocks.now) (open_blocks c.args.blocks.now) c.args.input.now _ (i64_over c.args.memory c.args.input.now _ _ (open_blocks c.args.blocks.now) c.in_ok-signed_size-in-I64.field-0 c.in_ok-first.ensures.cases.0 (sym c.in-I64.is ∙ c.pass_kind.ensures) c.requires c.in_ok-signed_size-in-I64.ensures)

pub returns-in_ok-bytes_size-in-FourBytes-clause-passed : goal.returns-in_ok-bytes_size-in-FourBytes-clause-passed
returns-in_ok-bytes_size-in-FourBytes-clause-passed c =
    run_of_size c.args.memory (open_blocks c.args.blocks.now) (open_blocks c.args.blocks.now) c.args.input.now _ (four_over c.args.memory c.args.input.now _ _ (open_blocks c.args.blocks.now) c.in_ok-bytes_size-in-FourBytes.field-0 c.in_ok-first.ensures.cases.0 (sym c.in-FourBytes.is ∙ c.pass_kind.ensures) c.requires c.in_ok-bytes_size-in-FourBytes.ensures)

pub returns-in_ok-bytes_size-in-EightBytes-clause-passed : goal.returns-in_ok-bytes_size-in-EightBytes-clause-passed
returns-in_ok-bytes_size-in-EightBytes-clause-passed c =
    run_of_size c.args.memory (open_blocks c.args.blocks.now) (open_blocks c.args.blocks.now) c.args.input.now _ (eight_over c.args.memory c.args.input.now _ _ (open_blocks c.args.blocks.now) c.in_ok-bytes_size-in-EightBytes.field-0 c.in_ok-first.ensures.cases.0 (sym c.in-EightBytes.is ∙ c.pass_kind.ensures) c.requires c.in_ok-bytes_size-in-EightBytes.ensures)

pub returns-in_ok-mem_arg_size-in-MemArg-clause-passed : goal.returns-in_ok-mem_arg_size-in-MemArg-clause-passed
returns-in_ok-mem_arg_size-in-MemArg-clause-passed c =
    run_of_size c.args.memory (open_blocks c.args.blocks.now) (open_blocks c.args.blocks.now) c.args.input.now _ (mem_arg_over c.args.memory c.args.input.now _ _ (open_blocks c.args.blocks.now) c.in_ok-mem_arg_size-in-MemArg.field-0 c.in_ok-first.ensures.cases.0 (sym c.in-MemArg.is ∙ c.pass_kind.ensures) c.requires c.in_ok-mem_arg_size-in-MemArg.ensures)

pub returns-in_ok-memory_index_size-in-Memory-clause-passed : goal.returns-in_ok-memory_index_size-in-Memory-clause-passed
returns-in_ok-memory_index_size-in-Memory-clause-passed c =
    run_of_size c.args.memory (open_blocks c.args.blocks.now) (open_blocks c.args.blocks.now) c.args.input.now _ (memory_index_over c.args.memory c.args.input.now _ _ (open_blocks c.args.blocks.now) c.in_ok-memory_index_size-in-Memory.field-0 c.in_ok-first.ensures.cases.0 (sym c.in-Memory.is ∙ c.pass_kind.ensures) c.requires c.in_ok-memory_index_size-in-Memory.ensures)

pub returns-in-Block-clause-passed : goal.returns-in-Block-clause-passed
returns-in-Block-clause-passed c = c.pass_nesting_run.ensures.passed c.args.memory

pub returns-in_ok-labels_size-in-Labels-clause-passed : goal.returns-in_ok-labels_size-in-Labels-clause-passed
returns-in_ok-labels_size-in-Labels-clause-passed c =
    run_of_size c.args.memory (open_blocks c.args.blocks.now) (open_blocks c.args.blocks.now) c.args.input.now _ (labels_over c.args.memory c.args.input.now _ _ (open_blocks c.args.blocks.now) c.in_ok-labels_size-in-Labels.field-0 c.in_ok-first.ensures.cases.0 (sym c.in-Labels.is ∙ c.pass_kind.ensures) c.requires c.in_ok-labels_size-in-Labels.ensures)
