use Rattle.std.proofs.Common.{◌≡◌, ◌+◌, rules}
use Rattle.wc_why.proofs.FoundLemmas.{noted_more}
use Rattle.wc_why.proofs.found.note_places.Goals as goal

pub loop-position-preserved : goal.loop-position-preserved
loop-position-preserved c =
    let at : c.in-Some.place ≡ c.args.count + c.loop-position.position = search rules in
    noted_more c.args.count c.args.items.now c.loop-position.position c.args.places.now.items c.loop-position.places.items c.note_place.new.places.items
    c.loop-position-test.true c.requires c.in-Some.place c.loop-position.invariant at c.note_place.ensures.sized c.note_place.ensures.noted
