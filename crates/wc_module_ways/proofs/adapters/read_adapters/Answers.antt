use Rattle.std.proofs.Common.{◌≡◌, ◌<◌, ◌∙◌, ap, length, arith, map, option_map, rules}
use Rattle.std.proofs.lemmas.Option.{slice_get-get_or, slice_get-map}
use Rattle.std.proofs.lemmas.Result.{err_from_is_err_and}
use Rattle.wc_module_ways.specs.Adapters.{adapter_view, given_view}
use Rattle.wc_module_ways.proofs.ModuleLemmas.{adapters_all, adapters_next, one_refused}
use Rattle.wc_module_ways.proofs.adapters.read_adapters.Goals as goal

pub loop-index-preserved : goal.loop-index-preserved
loop-index-preserved c imported asked one other =
    let within : c.loop-index.index < length c.args.given.now = omega arith in
    adapters_next imported asked c.args.given.now c.loop-index.index _ _ (map adapter_view c.loop-index.adapters.items) (map adapter_view c.push_some.new.adapters.items)
    within (c.loop-index.invariant imported asked one other) (c.in_ok-adapter.ensures.adapter imported asked one other) c.in_ok-push_some.ensures

pub returns-clause-adapters : goal.returns-clause-adapters
returns-clause-adapters c imported asked one other =
    let all : c.loop-index.index ≡ length c.args.given.now = search rules in
    adapters_all imported asked c.args.given.now c.loop-index.index (map adapter_view c.loop-index.adapters.items) all
    (c.loop-index.invariant imported asked one other)

pub returns-in_err-adapter-clause-refused : goal.returns-in_err-adapter-clause-refused
returns-in_err-adapter-clause-refused c =
    let p = err_from_is_err_and c.from_residual.result c.from_residual.ensures.1 in
    let within : c.loop-index.index < length c.args.given.now = omega arith in
    rw (p.1, p.2) (one_refused (map given_view c.args.given.now) _ c.loop-index.index _
    (slice_get-map given_view c.args.given.now c.loop-index.index ∙ ap (option_map given_view) (slice_get-get_or c.args.given.now c.loop-index.index _ within))
    c.in_err-adapter.ensures.refused)
