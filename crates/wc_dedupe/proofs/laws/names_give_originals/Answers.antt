use Rattle.wc_dedupe.proofs.OriginalNameLemmas.{names_give_originals}
use Rattle.wc_dedupe.proofs.laws.names_give_originals.Goals as goal

pub returns : goal.returns
returns c = names_give_originals
