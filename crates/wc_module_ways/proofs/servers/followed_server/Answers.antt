use Rattle.wc_module_ways.specs.Private.Servers.{server_by}
use Rattle.wc_module_ways.proofs.servers.followed_server.Goals as goal

pub returns : goal.returns
returns c = let core = c.args.core.now in λ t. server_by core.name.now (c.served_exports.ensures t) (core.has_rows.counted t)
