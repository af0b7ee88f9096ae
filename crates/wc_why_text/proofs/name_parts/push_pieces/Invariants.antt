use Rattle.std.proofs.Common.{◌≡◌, ◌-◌, ◌++◌, length}
use Rattle.wc_why_text.specs.RustNames.{pieces_in}
use Rattle.wc_why_text.proofs.name_parts.push_pieces.Given as goal

abbrev pub invariant-loop : goal.invariant-loop
invariant-loop l = l.out.items ++ pieces_in (length l.text - l.counter) l.rest ≡ l.fn.out.items ++ pieces_in (length l.text) l.text
