use Rattle.std.proofs.Common.{◌≡◌, ◌<◌, ◌∙◌, length, string_bytes, arith, rules}
use Rattle.wc_component_file.proofs.ListingLemmas.{lines_first, lines_more}
use Rattle.wc_component_file.proofs.listing.lines.Goals as goal

pub loop-position-preserved : goal.loop-position-preserved
loop-position-preserved c =
    let within : c.loop-position.position < length c.args.modules.now = omega arith in
    lines_more c.args.modules.now c.loop-position.position _ (string_bytes c.loop-position.text) _ (string_bytes c.in_ok-line.line)
    within c.loop-position.invariant c.in_ok-line.ensures (search rules)

pub returns : goal.returns
returns c =
    let same : c.loop-position.position ≡ c.at_most-position-end.result = omega arith in
    lines_first c.args.modules.now c.loop-position.position 16 (string_bytes c.loop-position.text) (same ∙ c.at_most-position-end.ensures.value)
    c.loop-position.invariant
