use Rattle.wc_write.proofs.ShortestTextLemmas.{section_shortest}
use Rattle.wc_write.proofs.laws.section_is_shortest.Goals as goal

pub returns : goal.returns
returns c = section_shortest
