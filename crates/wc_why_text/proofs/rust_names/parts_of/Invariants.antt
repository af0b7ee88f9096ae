use Rattle.std.proofs.Common.{length, map}
use Rattle.wc_why.specs.Texts.{text_of}
use Rattle.wc_why_text.proofs.RustNameLemmas.{IsRead}
use Rattle.wc_why_text.proofs.rust_names.parts_of.Given as goal

abbrev pub invariant-loop-rest : goal.invariant-loop-rest
invariant-loop-rest l = IsRead l.text (map text_of l.parts.items) l.rest

abbrev pub decreases-loop-rest : goal.decreases-loop-rest
decreases-loop-rest l = length l.rest
