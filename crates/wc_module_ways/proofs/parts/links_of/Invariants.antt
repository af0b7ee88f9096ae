use Rattle.std.proofs.Common.{List, map}
use Rattle.wc_read.specs.Imports.{import_values}
use Rattle.wc_paths.specs.Counts.{counts_value}
use Rattle.wc_why.specs.Part.{link_view}
use Rattle.wc_module_ways.specs.Servers.{ServerView}
use Rattle.wc_module_ways.specs.Private.Places.{ArePlaces}
use Rattle.wc_module_ways.proofs.LinkLemmas.{HasLinksTo}
use Rattle.wc_module_ways.proofs.parts.links_of.Given as goal

abbrev pub invariant-loop-position : goal.invariant-loop-position
invariant-loop-position l =
    (servers : List ServerView) → ArePlaces servers l.places.entries
    → HasLinksTo (import_values l.imports) (counts_value l.counts) servers l.position (map link_view l.links.items)
