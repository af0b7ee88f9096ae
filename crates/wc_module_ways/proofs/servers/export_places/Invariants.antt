use Rattle.std.proofs.Common.{map}
use Rattle.wc_module_ways.specs.Private.Places.{HasPlacesTo}
use Rattle.wc_module_ways.specs.Private.Servers.{server_view}
use Rattle.wc_module_ways.proofs.servers.export_places.Given as goal

abbrev pub invariant-loop-index : goal.invariant-loop-index
invariant-loop-index l = HasPlacesTo (map server_view l.servers) l.index 0 l.places.entries
