use Rattle.std.proofs.Common.{◌≡◌, length, arith}
use Rattle.wc_gc.proofs.StartLemmas.{all_starts, starts_more}
use Rattle.wc_gc.proofs.ranks.starts_of.Goals as goal

pub loop-index-init : goal.loop-index-init
loop-index-init c = record {
  begins = λ b lt. absurd (let none = c.new-starts.ensures.items in omega (arith, rw none at lt));
  ended = λ k d lt. absurd (omega arith);
}

pub loop-index-preserved : goal.loop-index-preserved
loop-index-preserved c =
    starts_more c.args.ranges.now c.requires.sorted c.args.block c.loop-index.index c.loop-index.starts.items _ c.requires.filled c.loop-index-test.true c.loop-index.invariant c.in_ok-append_starts.ensures.kept
    c.in_ok-append_starts.ensures.added c.in_ok-append_starts.ensures.past

pub returns : goal.returns
returns c =
    let done = c.loop-index-test.false in
    let to = c.loop-index.auto.index-end in
    all_starts c.args.ranges.now c.requires.sorted c.args.block c.loop-index.index c.loop-index.starts.items (let all : c.loop-index.index ≡ length c.args.ranges.now = omega (arith, done, to) in all) c.loop-index.invariant
