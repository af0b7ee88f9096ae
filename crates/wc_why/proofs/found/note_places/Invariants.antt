use Rattle.std.proofs.Common.{take}
use Rattle.wc_why.specs.Private.Found.{AreNoted}
use Rattle.wc_why.proofs.found.note_places.Given as goal

abbrev pub invariant-loop-position : goal.invariant-loop-position
invariant-loop-position l = AreNoted l.count (take l.position l.items) l.fn.places.items l.places.items
