use Rattle.std.proofs.Common.{map, take}
use Rattle.wc_why.specs.Lists.{roots_from}
use Rattle.wc_why.specs.Part.{part_view}
use Rattle.wc_why.specs.Private.Lists.{AreNumbersOf}
use Rattle.wc_why.proofs.lists.roots_of.Given as goal

abbrev pub invariant-loop-position : goal.invariant-loop-position
invariant-loop-position l = AreNumbersOf l.numbers (roots_from l.list 0 (take l.position (map part_view l.parts))) l.roots.items
