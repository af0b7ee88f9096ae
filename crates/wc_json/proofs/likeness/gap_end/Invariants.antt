use Rattle.std.proofs.Common.{◌≡◌, drop}
use Rattle.wc_json.specs.Likeness.{left}
use Rattle.wc_json.specs.declared.likeness.Gap.TheVariants.{Between}
use Rattle.wc_json.proofs.likeness.gap_end.Given as goal

abbrev pub invariant-loop-at : goal.invariant-loop-at
invariant-loop-at l = left l.gap (drop l.at l.text) ≡ left Between l.text
