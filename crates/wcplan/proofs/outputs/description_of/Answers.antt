use Rattle.std.proofs.lemmas.Result.{err_from_is_err_and}
use Rattle.wc_world.specs.WorldViews.{world_view}
use Rattle.wcplan.proofs.RunLemmas.{ways_fault}
use Rattle.wcplan.proofs.outputs.description_of.Goals as goal

pub returns-in_err-ways_of-in-Some-clause-fault : goal.returns-in_err-ways_of-in-Some-clause-fault
returns-in_err-ways_of-in-Some-clause-fault c =
    let p = err_from_is_err_and c.from_residual.result c.from_residual.ensures.1 in
    rw (p.1, p.2) (ways_fault (world_view c.args.world.now) c.in_err-ways_of-in-Some.field-0.0 c.in_err-ways_of-in-Some.ensures.fault)
