use Rattle.std.proofs.Common.{◌≡◌, take}
use Rattle.wc_why_text.specs.Runs.{Place, is_among}
use Rattle.wc_why_text.proofs.runs.set_of.Given as goal

abbrev pub invariant-loop-position : goal.invariant-loop-position
invariant-loop-position l = (p : Place) → is_among l.set.keys p ≡ is_among (take l.position l.ends) p
