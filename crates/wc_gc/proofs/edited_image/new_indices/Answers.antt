use Rattle.std.proofs.Common.{refl, inr}
use Rattle.wc_gc.specs.Live.{has_item}
use Rattle.wc_gc.proofs.EditedTextLemmas.{disjoint_ranks, room_for, room_of}
use Rattle.wc_gc.proofs.edited_image.new_indices.Goals as goal

pub new-requires-2 : goal.new-requires-2
new-requires-2 g c =
    disjoint_ranks (has_item g.L.LiveSet.has c.args.live.now) (g.L.LiveSet.has c.args.groups.now.imports) (g.L.LiveSet.has c.args.groups.now.defined) c.in_ok-ranks.ranks c.in_ok-ranks.ensures c.requires

pub returns-in-Some-clause-fits : goal.returns-in-Some-clause-fits
returns-in-Some-clause-fits g c =
    λ _. room_for (has_item g.L.LiveSet.has c.args.live.now) (g.L.LiveSet.has c.args.groups.now.imports) (g.L.LiveSet.has c.args.groups.now.defined) c.in_ok-ranks.ranks c.in_ok-ranks.ensures c.args.counts (c.in-Some.ensures.fits refl)

pub returns-in-None-clause-fault : goal.returns-in-None-clause-fault
returns-in-None-clause-fault g c =
    inr (
      refl,
      λ room. c.in-None.ensures.none refl (room_of (has_item g.L.LiveSet.has c.args.live.now) (g.L.LiveSet.has c.args.groups.now.imports) (g.L.LiveSet.has c.args.groups.now.defined) c.in_ok-ranks.ranks c.in_ok-ranks.ensures c.args.counts room),
    )
