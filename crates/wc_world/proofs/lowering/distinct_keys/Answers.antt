use Rattle.wc_world.proofs.LoweringKeyLemmas.{interface_of_parts}
use Rattle.wc_world.proofs.lowering.distinct_keys.Goals as goal

pub returns : goal.returns
returns c = λ l same.
    interface_of_parts l c.args.resolve.now same c.well_formedness.ensures c.args.id.0 c.interface-interface.result.now c.interface-interface.ensures c.len.ensures.unique c.len-2.ensures.unique
