use Rattle.wc_read.proofs.init_types.is_typed.Goals as goal

pub returns-in-Local-clause-found : goal.returns-in-Local-clause-found
returns-in-Local-clause-found c = rw c.in-Local.is c.is_typed_init.ensures.found
