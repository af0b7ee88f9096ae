use Rattle.std.proofs.Common.{arith}
use Rattle.std.proofs.lemmas.Bool.Decides.{nat_tests}
use Rattle.wc_read.specs.Blocks.{open_blocks}
use Rattle.wc_read.proofs.BlocksLemmas.{opened, spilled}
use Rattle.wc_read.proofs.blocks.Blocks.open.Goals as goal

pub returns-then-self : goal.returns-then-self
unfolding open_blocks
returns-then-self c = opened c.args.self.now.count c.args.self.now.inmost c.with_bit-inmost.result c.args.self.now.others.items c.args.is_if c.with_bit-inmost.ensures

pub returns : goal.returns
unfolding open_blocks
returns c =
    spilled c.args.self.now.count c.args.self.now.inmost c.with_bit-inmost.result c.args.self.now.others.items c.push.new.self.items c.args.is_if
    (let below = c.args.self.now.count_fits in grind (arith, nat_tests)) c.with_bit-inmost.ensures c.in_ok-push.ensures.items
