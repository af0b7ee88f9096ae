use Rattle.wc_names.specs.declared.async_values.Operation.TheVariants.{New, Write, Read, CancelWrite, CancelRead, Forward, DropWritable, DropReadable}
use Rattle.wc_names.proofs.async_values.operation_of.Goals as goal

pub returns : goal.returns
returns c New v s e = c.in_default.ensures.found s e
returns c Write v s e = c.in_default-strip_prefix.ensures.found s e
returns c Read v s e = c.in_default-strip_prefix-2.ensures.found s e
returns c CancelWrite v s e = c.in_default-strip_prefix-3.ensures.found s e
returns c CancelRead v s e = c.in_default-strip_prefix-4.ensures.found s e
returns c Forward v s e = c.in_default-strip_prefix-5.ensures.found s e
returns c DropWritable v s e = c.in_default-strip_prefix-6.ensures.found s e
returns c DropReadable v s e = c.in_default-strip_prefix-7.ensures.found s e
