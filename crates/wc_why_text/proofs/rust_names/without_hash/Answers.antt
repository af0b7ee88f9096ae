use Rattle.std.proofs.Common.{arith}
use Rattle.wc_why_text.proofs.RustNameLemmas.{more_parts, one_part}
use Rattle.wc_why_text.proofs.rust_names.without_hash.Goals as goal

pub returns-then-parts-lt2 : goal.returns-then-parts-lt2
returns-then-parts-lt2 c = one_part c.args.parts.now c.if-parts-lt2.true

pub returns-else-parts-lt2 : goal.returns-else-parts-lt2
returns-else-parts-lt2 c = more_parts c.args.parts.now _ (omega (arith, c.if-parts-lt2.false)) c.without_last_hash.ensures
