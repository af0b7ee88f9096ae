use Rattle.wc_write.proofs.ShortestTextLemmas.{imports_shortest}
use Rattle.wc_write.proofs.laws.imports_are_shortest.Goals as goal

pub returns : goal.returns
returns c = imports_shortest
