use Rattle.wc_gc.proofs.added_code.append_stack_code.Goals as goal

pub returns-in-Some : goal.returns-in-Some
returns-in-Some c = rw c.in-Some.is c.append_allocation_once.ensures
