use Rattle.std.proofs.Common.{◌≡◌, drop}
use Rattle.wc_why_text.specs.RustNames.{number_at}
use Rattle.wc_why_text.proofs.rust_names.number_at.Given as goal

abbrev pub invariant-loop-position : goal.invariant-loop-position
invariant-loop-position l = number_at l.number (drop l.position l.text) ≡ number_at 0 l.text
