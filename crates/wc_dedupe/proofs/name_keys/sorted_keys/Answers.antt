use Rattle.wc_dedupe.proofs.NameKeyLemmas.{keys_sorted}
use Rattle.wc_dedupe.proofs.name_keys.sorted_keys.Goals as goal

pub returns : goal.returns
returns c = keys_sorted _ _ _ _ c.in_ok-sort.ensures.permutation c.in_ok-keys.ensures
