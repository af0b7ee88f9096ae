use Rattle.std.proofs.Common.{◌-◌, ◌∙◌, length, refl, sym, take}
use Rattle.wc_why_text.proofs.RustNameLemmas.{hash_gone, no_hash}
use Rattle.wc_why_text.proofs.rust_names.without_last_hash.Goals as goal

pub returns-then-is_hash : goal.returns-then-is_hash
returns-then-is_hash c =
    hash_gone c.args.parts.now c.in-Some.last.now (take (length c.args.parts.now - 1) c.args.parts.now) c.in-Some.ensures.value
    (sym c.is_hash.ensures ∙ c.if-is_hash.true) refl

pub returns-else-is_hash : goal.returns-else-is_hash
returns-else-is_hash c =
    no_hash c.args.parts.now c.in-Some.last.now c.in-Some.ensures.value (sym c.is_hash.ensures ∙ c.if-is_hash.false)
