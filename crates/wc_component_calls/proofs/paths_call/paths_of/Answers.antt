use Rattle.std.proofs.lemmas.Result.{err_from_is_err_and}
use Rattle.wc_world.specs.WorldViews.{world_view}
use Rattle.wc_component_calls.proofs.CauseLemmas.{key_cause, paths_cause}
use Rattle.wc_component_calls.proofs.paths_call.paths_of.Goals as goal

pub returns-in_err-check_key-clause-fault : goal.returns-in_err-check_key-clause-fault
returns-in_err-check_key-clause-fault c =
    let p = err_from_is_err_and c.from_residual.result c.from_residual.ensures.1 in
    rw (p.1, p.2) (key_cause c.args.key.now (world_view c.args.world.now) c.in_err-check_key.field-0.0 c.in_err-check_key.ensures.fault)

pub returns-in_err-ways_json-clause-fault : goal.returns-in_err-ways_json-clause-fault
returns-in_err-ways_json-clause-fault c =
    let p = err_from_is_err_and c.from_residual-in_err-ways_json.result c.from_residual-in_err-ways_json.ensures.1 in
    rw (p.1, p.2) (paths_cause c.args.key.now (world_view c.args.world.now) c.in_err-ways_json.field-0.0 c.in_err-ways_json.ensures.fault)

pub returns-clause-text : goal.returns-clause-text
returns-clause-text c = record { known = c.in_ok-check_key.ensures.known; is = c.in_ok-ways_json.ensures.json }
