use Rattle.std.proofs.Common.{◌≡◌, ◌++◌, map, take}
use Rattle.wc_module_ways.specs.CoreModules.{core_view}
use Rattle.wc_module_ways.specs.Private.Servers.{server_view}
use Rattle.wc_module_ways.specs.Servers.{core_server}
use Rattle.wc_module_ways.proofs.servers.push_core_servers.Given as goal

abbrev pub invariant-loop-one : goal.invariant-loop-one
invariant-loop-one l =
    map server_view l.servers.items ≡ map server_view l.fn.servers.items ++ map core_server (map core_view (take l.one-index l.core))
