use Rattle.std.proofs.Common.{◌≡◌, ◌++◌, map, take}
use Rattle.wc_module_ways.specs.Adapters.{adapter_view}
use Rattle.wc_module_ways.specs.Private.Servers.{server_view}
use Rattle.wc_module_ways.specs.Servers.{adapter_server}
use Rattle.wc_module_ways.proofs.servers.push_adapter_servers.Given as goal

abbrev pub invariant-loop-adapter : goal.invariant-loop-adapter
invariant-loop-adapter l =
    map server_view l.servers.items ≡ map server_view l.fn.servers.items ++ map adapter_server (map adapter_view (take l.adapter-index l.adapters))
