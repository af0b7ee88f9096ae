use Rattle.std.proofs.Common.{sym, ◌∙◌, rules}
use Rattle.std.specs.Char.{is_ascii_digit}
use Rattle.wc_component_file.proofs.PickedLemmas.{not_all}
use Rattle.wc_component_file.proofs.renamed.are_digits.Goals as goal

pub returns-then-not-is_ascii_digit : goal.returns-then-not-is_ascii_digit
returns-then-not-is_ascii_digit c =
    sym (not_all is_ascii_digit c.args.text.now c.loop-digit.digit-index _ (search rules) (sym c.is_ascii_digit.ensures.value ∙ c.if-not-is_ascii_digit.true))
