use Rattle.wc_read.proofs.ShortestTextLemmas.{signed_short}
use Rattle.wc_read.proofs.text_sizes.signed_size.Goals as goal

pub returns-then-first-lt-MORE_BYTES : goal.returns-then-first-lt-MORE_BYTES
returns-then-first-lt-MORE_BYTES c = signed_short c.args.bits c.args.input.now _ _ c.requires.some c.in_ok-first.ensures.cases.0 c.if-first-lt-MORE_BYTES.true
