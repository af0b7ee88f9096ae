use Rattle.wc_read.specs.Imports.{import_values}
use Rattle.wc_module_ways.specs.Names.{function_pairs}
use Rattle.wc_module_ways.proofs.modules.read_others.Goals as goal

pub returns-clause-others : goal.returns-clause-others
returns-clause-others c = record {
  functions = c.in_ok-functions.ensures;
  adapters = c.in_ok-adapters.ensures.adapters (function_pairs (import_values c.args.imports.now)) c.in_ok-functions.ensures;
  core = c.in_ok-core.ensures.core;
  has = c.in_ok-core.ensures.has;
  names = c.in_ok-names.ensures;
}
