use Rattle.std.proofs.Common.{◌≡◌, ◌++◌, map, take}
use Rattle.wc_why.specs.Texts.{text_of}
use Rattle.wc_why_text.specs.RustNames.{later_parts}
use Rattle.wc_why_text.proofs.rust_names.push_later_parts.Given as goal

abbrev pub invariant-loop-part : goal.invariant-loop-part
invariant-loop-part l = l.text.items ≡ l.fn.text.items ++ later_parts (map text_of (take l.part-index l.parts))
