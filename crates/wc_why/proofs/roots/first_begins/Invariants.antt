use Rattle.std.proofs.Common.{map}
use Rattle.wc_why.specs.Part.{part_view}
use Rattle.wc_why.specs.Private.Roots.{AreFirstsTo}
use Rattle.wc_why.proofs.roots.first_begins.Given as goal

abbrev pub invariant-loop-position : goal.invariant-loop-position
invariant-loop-position l = AreFirstsTo (map part_view l.parts) l.numbers l.position l.firsts.items
