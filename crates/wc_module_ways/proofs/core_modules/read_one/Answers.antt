use Rattle.wc_module_ways.specs.CoreModules.{core_given}
use Rattle.wc_module_ways.proofs.CoreModuleLemmas.{core_refused}
use Rattle.wc_module_ways.proofs.core_modules.read_one.Goals as goal

pub returns-in-Err-clause-refused : goal.returns-in-Err-clause-refused
returns-in-Err-clause-refused c =
    core_refused (core_given c.args.given.now) c.in-Err.refused.fault c.in-Err.refused.place c.of_core.result c.of_core.ensures c.in-Err.ensures.refused
