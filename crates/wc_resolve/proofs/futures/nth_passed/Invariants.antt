use Rattle.std.proofs.Common.{[], ◌++◌, drop}
use Rattle.std.specs.Option.{option_map_or}
use Rattle.wc_resolve.specs.Futures.{futures_from}
use Rattle.wc_resolve.specs.Roots.{param_roots, type_roots}
use Rattle.wc_resolve.proofs.FuturesAtLemmas.{IsPassed}
use Rattle.wc_resolve.proofs.futures.nth_passed.Given as goal

abbrev pub invariant-loop-param : goal.invariant-loop-param
invariant-loop-param l =
    IsPassed (futures_from l.resolve.types (param_roots l.params ++ option_map_or type_roots l.outcome [])) (futures_from l.resolve.types (param_roots (drop l.param-index l.params) ++ option_map_or type_roots l.outcome [])) l.n l.left
