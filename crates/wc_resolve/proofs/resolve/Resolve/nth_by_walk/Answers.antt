use Rattle.std.proofs.Common.{sym}
use Rattle.wc_resolve.specs.Views.{function_view}
use Rattle.wc_resolve.proofs.LongFunctionLemmas.{function_at_in}
use Rattle.wc_resolve.proofs.resolve.Resolve.nth_by_walk.Goals as goal

pub nth_future_or_stream-requires : goal.nth_future_or_stream-requires
nth_future_or_stream-requires c = function_at_in c.args.self.now c.args.place (function_view c.in-Some.function.now) c.well_formedness.ensures.in_range (sym c.in-Some.ensures)
