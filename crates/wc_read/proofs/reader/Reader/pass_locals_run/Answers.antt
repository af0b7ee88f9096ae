use Rattle.wc_read.proofs.LocalRunsLemmas.{run_read, type_within}
use Rattle.wc_read.proofs.reader.Reader.pass_locals_run.Goals as goal

pub overflow_sub-input : goal.overflow_sub-input
overflow_sub-input c = type_within c.u32_and_is_text.new.self.rest.now _ c.val_type.new.self.rest.now c.in_ok-ty.ensures

pub returns : goal.returns
returns c = run_read c.args.self.now.rest.now c.u32_and_is_text.new.self.rest.now c.val_type.new.self.rest.now c.in_ok-count.count c.in_ok-count.is_text _ _ c.in_ok-count.ensures c.in_ok-ty.ensures (rw c.is_plain_text-is_type_text.ensures at c.both.ensures)
