use Rattle.wc_write.proofs.ModuleTextLemmas.{module_read}
use Rattle.wc_write.proofs.laws.text_read.Goals as goal

pub returns : goal.returns
returns c = module_read
