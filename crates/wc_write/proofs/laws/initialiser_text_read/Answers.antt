use Rattle.wc_write.proofs.ModuleTextLemmas.{init_read}
use Rattle.wc_write.proofs.laws.initialiser_text_read.Goals as goal

pub returns : goal.returns
returns c = init_read
