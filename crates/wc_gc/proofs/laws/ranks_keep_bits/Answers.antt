use Rattle.wc_gc.proofs.SpellableLemmas.{ranks_keep}
use Rattle.wc_gc.proofs.laws.ranks_keep_bits.Goals as goal

pub returns : goal.returns
returns c = λ kept. ranks_keep kept
