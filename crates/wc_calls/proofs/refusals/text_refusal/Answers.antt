use Rattle.std.proofs.Common.{inl, inr}
use Rattle.wc_calls.proofs.refusals.text_refusal.Goals as goal

pub returns-in-Ok : goal.returns-in-Ok
returns-in-Ok c = inr (c.json_refusal.ensures.fault, c.in-Ok.place, c.in-Ok.ensures, c.json_refusal.ensures.place)

pub returns-in-Err : goal.returns-in-Err
returns-in-Err c = inl c.from.ensures
