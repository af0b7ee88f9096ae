use Rattle.std.proofs.Common.{ap, map, sym, ◌∙◌}
use Rattle.wc_read.specs.Formats.{SpellsVector}
use Rattle.wc_read.specs.Reading.Reader.{vector_at}
use Rattle.wc_read.proofs.MeetsLemmas.{left_over, no_value, none_left}
use Rattle.wc_calls.specs.RequiredFunctions.{SpellsFunction}
use Rattle.wc_calls.specs.Private.RequiredFunctions.{function_at, function_view}
use Rattle.wc_calls.proofs.RequiredFunctionLemmas.{functions_meet}
use Rattle.wc_calls.proofs.required_functions.read_functions.Goals as goal

pub returns-then-is_empty-clause-read : goal.returns-then-is_empty-clause-read
returns-then-is_empty-clause-read c =
    none_left (SpellsVector SpellsFunction) (vector_at function_at) functions_meet c.args.bytes.now (map function_view c.in-Ok.functions.items) _
    (sym (ap (vector_at function_at) c.new-reader.ensures) ∙ c.in-Ok.ensures) c.if-is_empty.ensures

pub returns-in-Ok-clause-unread : goal.returns-in-Ok-clause-unread
returns-in-Ok-clause-unread c = λ same.
    left_over (SpellsVector SpellsFunction) (vector_at function_at) functions_meet c.args.bytes.now (map function_view c.in-Ok.functions.items) _
    (sym (ap (vector_at function_at) c.new-reader.ensures) ∙ c.in-Ok.ensures) c.if-is_empty.ensures

pub returns-clause-unread : goal.returns-clause-unread
returns-clause-unread c = λ same.
    no_value (SpellsVector SpellsFunction) (vector_at function_at) functions_meet c.args.bytes.now
    (sym (ap (vector_at function_at) c.new-reader.ensures) ∙ c.in-Err.ensures.0 (c.fault_of_reading.ensures same))
