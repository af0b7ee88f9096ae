use Rattle.std.proofs.Common.{All}
use Rattle.wc_resolve.specs.LongFunctions.{IsLongFunction}
use Rattle.wc_resolve.specs.ResolveParts.{parts_view}
use Rattle.wc_resolve.proofs.long_functions.functions_at.Given as goal

abbrev pub invariant-loop-place : goal.invariant-loop-place
invariant-loop-place l = All (IsLongFunction (parts_view l.parts)) l.kept.items
