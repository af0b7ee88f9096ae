use Rattle.wc_calls.proofs.encoders.resolve_of.Goals as goal

pub returns-in-Err-clause-fault : goal.returns-in-Err-clause-fault
returns-in-Err-clause-fault c = (c.in-Err.refused.refusal, c.in-Err.ensures.refusal, c.parts_refusal.ensures)
