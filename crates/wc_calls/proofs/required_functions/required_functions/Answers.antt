use Rattle.std.proofs.Common.{map}
use Rattle.wc_validate.specs.Imports.Map.{required_entry}
use Rattle.wc_calls.proofs.RequiredFunctionLemmas.{are_required, functions_unread, not_spelled}
use Rattle.wc_calls.proofs.required_functions.required_functions.Goals as goal

pub returns-in-Ok-clause-required : goal.returns-in-Ok-clause-required
returns-in-Ok-clause-required c =
    are_required c.args.bytes.now c.in-Ok.functions.items c.deref.result.now c.types_by_name.result (λ m. map required_entry m.entries)
    c.deref.ensures.value c.in-Ok.ensures.read c.types_by_name.ensures.types c.types_by_name.ensures.distinct

pub returns-in-Ok-clause-unread : goal.returns-in-Ok-clause-unread
returns-in-Ok-clause-unread c =
    functions_unread c.args.bytes.now c.in-Ok.functions.items c.deref.result.now c.types_by_name.result c.deref.ensures.value
    c.in-Ok.ensures.read c.types_by_name.ensures.repeated

pub returns-in-Err-clause-unread : goal.returns-in-Err-clause-unread
returns-in-Err-clause-unread c = λ same. not_spelled c.args.bytes.now (c.in-Err.ensures.unread same)
