use Rattle.wc_calls.proofs.encoders.main_module.Goals as goal

pub returns-in-Err-clause-fault : goal.returns-in-Err-clause-fault
returns-in-Err-clause-fault c = (c.in-Err.refused, c.in-Err.ensures.refused, c.in-Err.ensures.place, c.renaming_refusal.ensures)
