use Rattle.wc_gc.proofs.TrimmedTextLemmas.{trimmed_text_read}
use Rattle.wc_gc.proofs.laws.trimmed_read.Goals as goal

pub returns : goal.returns
returns c = trimmed_text_read
