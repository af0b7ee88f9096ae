use Rattle.std.proofs.Common.{map}
use Rattle.wc_resolve.specs.Views.{world_view}
use Rattle.wc_selection.proofs.WorldPartLemmas.{other_index}
use Rattle.wc_maps.proofs.ListLemmas.{viewed_at}
use Rattle.wc_selection.proofs.world_parts.is_other_part.Goals as goal

pub returns : goal.returns
returns c =
    let xs = c.args.worlds.now in
    let part = c.index-worlds-index.result in
    let whole = c.index-worlds-whole.result in
    other_index (map world_view xs) c.args.index c.args.whole (world_view part) (world_view whole) c.is_proper_part.result
    (viewed_at world_view xs c.args.index part c.requires.there c.index-worlds-index.is)
    (viewed_at world_view xs c.args.whole whole c.requires.whole_there c.index-worlds-whole.is) c.if-index-whole.false c.is_proper_part.ensures
