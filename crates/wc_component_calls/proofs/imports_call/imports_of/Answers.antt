use Rattle.std.proofs.lemmas.Result.{err_from_is_err_and}
use Rattle.wc_world.specs.WorldViews.{world_view}
use Rattle.wc_component_calls.proofs.CauseLemmas.{imports_cause}
use Rattle.wc_component_calls.proofs.imports_call.imports_of.Goals as goal

pub returns-in_err-imports_json-clause-fault : goal.returns-in_err-imports_json-clause-fault
returns-in_err-imports_json-clause-fault c =
    let p = err_from_is_err_and c.from_residual.result c.from_residual.ensures.1 in
    rw (p.1, p.2) (imports_cause (world_view c.args.world.now) c.in_err-imports_json.field-0.0 c.in_err-imports_json.ensures.fault)
