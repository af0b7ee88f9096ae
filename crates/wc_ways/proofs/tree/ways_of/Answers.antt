use Rattle.std.proofs.Common.{◌∙◌, ◌++◌, ap, map}
use Rattle.std.specs.Option.{option_to_list}
use Rattle.wc_why.specs.Tree.{tree_way_view}
use Rattle.wc_ways.specs.WaysTree.{way_at}
use Rattle.wc_ways.specs.Private.Wanted.{wanted_view}
use Rattle.wc_ways.proofs.LoopLemmas.{put_viewed, range_next}
use Rattle.wc_ways.proofs.tree.ways_of.Goals as goal

pub loop-position-preserved : goal.loop-position-preserved
loop-position-preserved c =
    let now = c.loop-position.ways.items in
    range_next (way_at (map wanted_view c.args.wanted.now) c.args.ends.now) c.loop-position.position (map tree_way_view now)
    (map tree_way_view c.push_some.new.list.items) c.loop-position.invariant
    (put_viewed tree_way_view now c.push_some.new.list.items c.way_at.result c.in_ok-push_some.ensures
    ∙ ap (λ o. map tree_way_view now ++ option_to_list o) c.way_at.ensures)
