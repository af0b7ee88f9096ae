use Rattle.std.proofs.Common.{arith}
use Rattle.std.proofs.lemmas.Bool.Decides.{nat_tests}
use Rattle.wc_read.specs.Blocks.{open_blocks}
use Rattle.wc_read.proofs.BlocksLemmas.{else_begun}
use Rattle.wc_read.proofs.blocks.Blocks.begin_else_in_word.Goals as goal

pub returns : goal.returns
unfolding open_blocks
returns c = else_begun c.args.self.now.count c.args.self.now.inmost c.args.self.now.others.items (grind (arith, nat_tests)) (grind (arith, nat_tests))
