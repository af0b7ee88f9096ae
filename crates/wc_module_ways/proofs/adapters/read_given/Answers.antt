use Rattle.wc_module_ways.specs.Adapters.{given_view}
use Rattle.wc_module_ways.proofs.ModuleLemmas.{given_refused}
use Rattle.wc_module_ways.proofs.adapters.read_given.Goals as goal

pub returns-in-Err-clause-refused : goal.returns-in-Err-clause-refused
returns-in-Err-clause-refused c =
    given_refused (given_view c.args.given) c.in-Err.refused.fault c.in-Err.refused.place c.of_adapter.result c.of_adapter.ensures c.in-Err.ensures.refused
