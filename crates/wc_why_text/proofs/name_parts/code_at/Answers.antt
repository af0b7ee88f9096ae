use Rattle.std.proofs.Common.{◌+◌, rules}
use Rattle.std.proofs.lemmas.List.{take_rest}
use Rattle.wc_why_text.proofs.RustNameLemmas.{code_ends}
use Rattle.wc_why_text.proofs.name_parts.code_at.Goals as goal

pub returns-then-c-eq36-clause-value : goal.returns-then-c-eq36-clause-value
returns-then-c-eq36-clause-value c =
    let text = c.args.text.now in
    let at = c.index-text-position in
    code_ends text c.loop-position.position c.loop-position.code at.result _ (search rules) at.is c.loop-position.invariant.0 _ (search rules)
    (take_rest text (c.loop-position.position + 1))
