use Rattle.std.proofs.Common.{refl}
use Rattle.wc_module_ways.specs.Adapters.{adapter_view}
use Rattle.wc_module_ways.proofs.ModuleLemmas.{this_refused}
use Rattle.wc_module_ways.proofs.tree.check_adapter.Goals as goal

pub returns-in-Ok-clause-no_cause : goal.returns-in-Ok-clause-no_cause
returns-in-Ok-clause-no_cause c = c.in-Ok.ensures.no_cause refl

pub returns-in-Err-clause-refused : goal.returns-in-Err-clause-refused
returns-in-Err-clause-refused c =
    let a = adapter_view c.args.adapter.now in
    this_refused a c.in-Err.refused.fault c.in-Err.refused.place c.of_adapter.result c.of_adapter.ensures c.in-Err.ensures.fault c.in-Err.ensures.place
