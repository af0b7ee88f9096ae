use Rattle.std.proofs.Common.{sym}
use Rattle.wc_resolve.specs.ResolveParts.{parts_view}
use Rattle.wc_resolve.specs.Views.{function_view}
use Rattle.wc_resolve.proofs.LongFunctionLemmas.{function_at_in}
use Rattle.wc_resolve.proofs.long_functions.long_function_at.Goals as goal

pub returns-in_ok-long_function-in-Some : goal.returns-in_ok-long_function-in-Some
returns-in_ok-long_function-in-Some c =
    let r = parts_view c.args.parts.now in
    let f = function_view c.in-Some.function.now in
    c.in_ok-long_function-in-Some.ensures r c.requires.entries c.requires.flats (function_at_in r c.args.place f c.requires.ranges (sym c.in-Some.ensures)) (sym c.in-Some.ensures)
