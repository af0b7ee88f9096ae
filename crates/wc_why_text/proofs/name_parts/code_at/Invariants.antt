use Rattle.std.proofs.Common.{◌≡◌, ◌<◌, drop}
use Rattle.wc_why_text.specs.RustNames.{code_from}
use Rattle.wc_why_text.proofs.name_parts.code_at.Given as goal

abbrev pub invariant-loop-position : goal.invariant-loop-position
invariant-loop-position l = (code_from l.code (drop l.position l.text) ≡ code_from 0 l.text) × (l.code < 0x11_0000)
