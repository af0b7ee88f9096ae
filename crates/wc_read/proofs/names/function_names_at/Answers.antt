use Rattle.wc_read.proofs.NamesAtLemmas.{names_of_module}
use Rattle.wc_read.proofs.names.function_names_at.Goals as goal

pub returns-clause-found : goal.returns-clause-found
returns-clause-found c = names_of_module _ _ _ _ _ c.in_ok-cut.ensures.found c.in_ok-wanted.ensures (rw c.deref.ensures.value at c.names_at.ensures.found)
