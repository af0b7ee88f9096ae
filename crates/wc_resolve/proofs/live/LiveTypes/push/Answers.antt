use Rattle.wc_resolve.specs.Roots.{indices}
use Rattle.wc_resolve.proofs.MarkLemmas.{marks_more, marks_same}
use Rattle.wc_resolve.proofs.live.LiveTypes.push.Goals as goal

pub invariant_of-self-2 : goal.invariant_of-self-2
invariant_of-self-2 c =
    rw c.in_ok-push.ensures.items
    (marks_more c.make_room.new.marks.items c.self.inside.types.items c.args.id (marks_same c.self.inside.there.items c.make_room.new.marks.items
    (indices c.self.inside.types.items) c.self.invariant c.in_ok-make_room.ensures.same) c.in_ok-make_room.ensures.room)
