use Rattle.std.proofs.Common.{◌≡◌, ℕ, Bool, IfOk, subst}
use Rattle.std.proofs.Math.Path.{fun_ext}
use Rattle.wc_gc.specs.Bits.{bit_of}
use Rattle.wc_gc.specs.Counts.{count_below}
use Rattle.wc_gc.specs.Ranges.{in_ranges}
use Rattle.wc_gc.specs.Ranks.{has_number, rank_of}
use Rattle.wc_gc.proofs.live.BitVecLiveSet.ranks.Goals as goal

pub returns-clause-same : goal.returns-clause-same
returns-clause-same c =
    let bits : in_ranges c.in_ok-ranges.ranges.ranges.items ≡ bit_of c.args.self.now.words.items
    = fun_ext (λ y. c.in_ok-ranges.ensures y) in
    subst (λ (h : ℕ → Bool). IfOk c.ranks.result (λ r. (x : ℕ) → has_number r x ≡ h x)) bits c.ranks.ensures.same

pub returns-clause-ranks : goal.returns-clause-ranks
returns-clause-ranks c =
    let bits : in_ranges c.in_ok-ranges.ranges.ranges.items ≡ bit_of c.args.self.now.words.items
    = fun_ext (λ y. c.in_ok-ranges.ensures y) in
    subst (λ (h : ℕ → Bool). IfOk c.ranks.result (λ r. (x : ℕ) → rank_of r x ≡ count_below h x)) bits c.ranks.ensures.ranks
