use Rattle.wc_write.proofs.BodyTextLemmas.{body_read}
use Rattle.wc_write.proofs.laws.body_text_read.Goals as goal

pub returns : goal.returns
returns c = body_read
