use Rattle.std.proofs.Common.{◌≡◌, ◌+◌, ◌*◌, ◌&&◌, ◌∙◌, ap, arith, nat_lt}
use Rattle.wc_gc.specs.Bits.{bit_of}
use Rattle.wc_gc.proofs.BitLemmas.{all_bits}
use Rattle.wc_gc.proofs.live.BitVec.in_set.Goals as goal

pub loop-index-preserved : goal.loop-index-preserved
loop-index-preserved g c =
    let next : c.loop-index.index * 64 + 64 ≡ (c.loop-index.index + 1) * 64 = omega arith in
    λ y. rw c.deref.ensures.value at c.in_ok-insert_word.ensures y ∙ ap (λ k. nat_lt y k && bit_of c.args.self.now.words.items y) next

pub returns : goal.returns
returns g c =
    let done = c.loop-index-test.false in
    let len = c.len-index-end.ensures in
    all_bits c.args.self.now.words.items _ (c.loop-index.index * 64) c.loop-index.invariant (omega (arith, done, len))
