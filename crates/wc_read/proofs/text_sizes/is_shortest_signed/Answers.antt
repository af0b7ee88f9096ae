use Rattle.std.proofs.Common.{◌*◌, ◌-◌, rules, w64, SFits}
use Rattle.std.proofs.lemmas.Int.{to_z-of_z}
use Rattle.wc_read.specs.Private.TextSizes.{without_sign}
use Rattle.wc_read.proofs.ShortestTextLemmas.{shifted_out}
use Rattle.wc_read.proofs.text_sizes.is_shortest_signed.Goals as goal

pub returns-then-size-le-MOST_BYTES : goal.returns-then-size-le-MOST_BYTES
returns-then-size-le-MOST_BYTES c = λ h _.
    let fits : SFits w64 c.args.number = search rules in
    (c.if-size-le-MOST_BYTES.true, shifted_out (without_sign c.args.number) (7 * (c.args.size - 1) - 1) (rw (to_z-of_z w64 c.args.number fits) at (rw c.without_sign.ensures at h)))
