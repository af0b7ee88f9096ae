use Rattle.std.proofs.Common.{◌≡◌, List, Some, map}
use Rattle.std.specs.List.{slice_get}
use Rattle.wc_read.specs.Exports.{export_value}
use Rattle.wc_paths.specs.Counts.{counts_value}
use Rattle.wc_module_ways.specs.Private.Places.{HasPlacesTo}
use Rattle.wc_module_ways.specs.Private.Servers.{server_by}
use Rattle.wc_module_ways.specs.Servers.{ServerView}
use Rattle.wc_module_ways.proofs.servers.put_exports.Given as goal

abbrev pub invariant-loop-export : goal.invariant-loop-export
invariant-loop-export l =
    (servers : List ServerView) → slice_get servers l.index ≡ Some (server_by l.name (map export_value l.exports) (counts_value l.counts))
    → HasPlacesTo servers l.index 0 l.fn.places.entries → HasPlacesTo servers l.index l.export-index l.places.entries
