use Rattle.std.proofs.Common.{arith}
use Rattle.std.proofs.lemmas.Bool.Decides.{nat_tests}
use Rattle.wc_read.proofs.ShortestTextLemmas.{mem_arg_sized}
use Rattle.wc_read.proofs.text_sizes.mem_arg_size.Goals as goal

pub returns : goal.returns
returns c =
    mem_arg_sized c.args.memory c.args.input.now c.in_ok-align.align.now c.in_ok-align.rest.now c.in_ok-number_size.field-0 c.if-not-memory.false c.in_ok-align.ensures.cases.0 (let small = c.if-align-ge-NAMES_MEMORY.false in grind (arith, nat_tests)) c.in_ok-number_size.ensures
