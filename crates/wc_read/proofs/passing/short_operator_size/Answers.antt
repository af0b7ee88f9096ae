use Rattle.std.proofs.Common.{◌∙◌, rules}
use Rattle.wc_read.proofs.PassingLemmas.{short_over}
use Rattle.wc_read.proofs.passing.short_operator_size.Goals as goal

pub returns : goal.returns
returns c = short_over c.args.input.now _ _ _ _ _ c.in_ok-code.ensures.cases.0 c.in_ok-number.ensures.cases.0 c.if-number-ge-MORE_BYTES.false (c.from.ensures ∙ c.short_size-size.ensures) (search rules)
