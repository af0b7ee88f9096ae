use Rattle.std.proofs.Common.{◌≡◌, map}
use Rattle.std.specs.List.{filter_map, range_with_len}
use Rattle.wc_why.specs.Part.{link_view}
use Rattle.wc_paths.specs.Counts.{counts_value}
use Rattle.wc_read.specs.Imports.{import_values}
use Rattle.wc_world.specs.WorldViews.{world_view}
use Rattle.wc_ways.specs.Parts.{link_at}
use Rattle.wc_ways.specs.Private.Modules.{codes_in}
use Rattle.wc_ways.proofs.parts.links_of.Given as goal

abbrev pub invariant-loop-position : goal.invariant-loop-position
invariant-loop-position l =
    let g = l.linking in
    map link_view l.links.items
    ≡ filter_map (link_at (world_view g.world.now) (codes_in g.modules.now) (counts_value g.rows.now.counts) (import_values l.imports)) (range_with_len 0 l.position)
