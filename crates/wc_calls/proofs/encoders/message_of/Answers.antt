use Rattle.wc_calls.proofs.encoders.message_of.Goals as goal

pub returns-in-Err-clause-fault : goal.returns-in-Err-clause-fault
returns-in-Err-clause-fault c = (c.in-Err.fault, c.in-Err.ensures.fault, c.text_refusal.ensures)
