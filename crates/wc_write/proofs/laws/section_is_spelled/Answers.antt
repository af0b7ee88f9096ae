use Rattle.wc_write.proofs.TextLemmas.{section_spelled}
use Rattle.wc_write.proofs.laws.section_is_spelled.Goals as goal

pub returns : goal.returns
returns c = section_spelled
