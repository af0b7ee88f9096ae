use Rattle.std.proofs.Common.{◌∙◌, ◌++◌, ap, map}
use Rattle.std.specs.Option.{option_to_list}
use Rattle.wc_why.specs.Part.{link_view}
use Rattle.wc_paths.specs.Counts.{counts_value}
use Rattle.wc_read.specs.Imports.{import_values}
use Rattle.wc_world.specs.WorldViews.{world_view}
use Rattle.wc_ways.specs.Parts.{link_at}
use Rattle.wc_ways.specs.Private.Modules.{codes_in}
use Rattle.wc_ways.proofs.LoopLemmas.{put_viewed, range_next}
use Rattle.wc_ways.proofs.parts.links_of.Goals as goal

pub loop-position-preserved : goal.loop-position-preserved
loop-position-preserved c =
    let g = c.args.linking in
    let now = c.loop-position.links.items in
    range_next (link_at (world_view g.world.now) (codes_in g.modules.now) (counts_value g.rows.now.counts) (import_values c.args.imports.now)) c.loop-position.position
    (map link_view now) (map link_view c.push_some.new.list.items) c.loop-position.invariant
    (put_viewed link_view now c.push_some.new.list.items c.link_at-link.result c.in_ok-push_some.ensures
    ∙ ap (λ o. map link_view now ++ option_to_list o) c.link_at-link.ensures)
