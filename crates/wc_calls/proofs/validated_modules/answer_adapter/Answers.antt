use Rattle.std.proofs.Common.{inr, ◌≡◌}
use Rattle.wc_calls.specs.declared.required_functions.RequiredFault.TheVariants.{Unread}
use Rattle.wc_calls.proofs.validated_modules.answer_adapter.Goals as goal

pub returns-in-Err-Unread-clause-bad_argument : goal.returns-in-Err-Unread-clause-bad_argument
returns-in-Err-Unread-clause-bad_argument c = λ is.
    let same : c.in-Err-Unread.field-0 ≡ Unread = cc c.in-Err-Unread.field-0-is in
    inr (inr (c.in-Err-Unread.ensures.unread same))
