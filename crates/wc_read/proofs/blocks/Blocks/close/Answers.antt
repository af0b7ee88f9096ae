use Rattle.std.proofs.Common.{◌≡◌, ◌<◌, arith, length, sym, ◌∙◌, rules}
use Rattle.std.specs.Vec.{vec_len}
use Rattle.std.proofs.lemmas.Bool.Decides.{nat_tests}
use Rattle.wc_read.specs.Blocks.{open_blocks}
use Rattle.wc_read.proofs.BlocksLemmas.{closed, closed_other, none_open, half_fits}
use Rattle.wc_read.proofs.blocks.Blocks.close.Goals as goal

pub returns-in_err-word : goal.returns-in_err-word
unfolding open_blocks
returns-in_err-word c =
    let none : c.args.self.now.count ≡ 0 = grind (arith, nat_tests) in
    let n : vec_len c.args.self.now.others ≡ length c.args.self.now.others.items = search rules in
    rw c.from_residual.ensures (none_open c.args.self.now.count c.args.self.now.inmost c.args.self.now.others.items none (sym n ∙ c.in_err-word.ensures.cases.0))

pub returns-then-self-eq0 : goal.returns-then-self-eq0
unfolding open_blocks
returns-then-self-eq0 c = closed_other c.args.self.now.count c.in_ok-word.word c.args.self.now.inmost c.args.self.now.others.items c.pop.new.self.items (grind (arith, nat_tests)) c.in_ok-word.ensures.items

pub invariant_of-self-2 : goal.invariant_of-self-2
invariant_of-self-2 c =
    let some : 0 < c.args.self.now.count = grind (arith, nat_tests) in
    let below : c.args.self.now.count < 64 = c.args.self.now.count_fits in
    record { count_fits = omega arith; bits_fit = half_fits c.args.self.now.count c.args.self.now.inmost some c.args.self.now.bits_fit }

pub returns : goal.returns
unfolding open_blocks
returns c = closed c.args.self.now.count c.args.self.now.inmost c.args.self.now.others.items (grind (arith, nat_tests))
