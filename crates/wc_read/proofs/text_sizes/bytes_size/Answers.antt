use Rattle.std.proofs.Common.{arith}
use Rattle.std.proofs.lemmas.Bool.Decides.{nat_tests}
use Rattle.wc_read.proofs.ShortestTextLemmas.{bytes_sized}
use Rattle.wc_read.proofs.text_sizes.bytes_size.Goals as goal

pub returns : goal.returns
returns c = bytes_sized c.args.count c.args.input.now (grind (arith, nat_tests))
