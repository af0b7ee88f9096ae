use Rattle.std.proofs.Common.{take, map}
use Rattle.wc_why.specs.Part.{part_view}
use Rattle.wc_why.specs.Private.Numbers.{AreNumbersIn}
use Rattle.wc_why.proofs.numbers.Numbers.of.Given as goal

abbrev pub invariant-loop-position : goal.invariant-loop-position
invariant-loop-position l = AreNumbersIn (take l.position (map part_view l.parts)) l.starts.items l.owners.items
