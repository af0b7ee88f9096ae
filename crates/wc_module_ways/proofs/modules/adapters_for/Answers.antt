use Rattle.std.proofs.Common.{map}
use Rattle.wc_module_ways.specs.Names.{pair_view}
use Rattle.wc_module_ways.proofs.modules.adapters_for.Goals as goal

pub returns-clause-adapters : goal.returns-clause-adapters
returns-clause-adapters c imported are =
    c.read_adapters.ensures.adapters imported (map pair_view c.args.input.now.adapter_exports.now) are c.in_ok-asked.ensures
