use Rattle.wc_names.proofs.TextLemmas.{no_number}
use Rattle.wc_names.proofs.texts.number_after.Goals as goal

pub returns-in-None-number : goal.returns-in-None-number
returns-in-None-number c = λ rest n. no_number c.args.text.now c.args.first.now c.in-Some.digits.now rest n c.in-Some.ensures.found c.in-None-number.ensures
