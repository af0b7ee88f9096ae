use Rattle.wc_names.proofs.NumberTextLemmas.{number_read, number_spelled}
use Rattle.wc_names.proofs.laws.numbers_parsed.Goals as goal

pub returns : goal.returns
returns c = λ n text. (
  (λ s. let read = number_read text n s in (read.0, read.1, s.fits)),
  (λ p. number_spelled text n p.0 p.1 p.2),
)
