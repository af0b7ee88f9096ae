use Rattle.std.proofs.Common.{take}
use Rattle.wc_dedupe.specs.Private.NamePositions.{names_of}
use Rattle.wc_dedupe.specs.Private.Numbers.{LacksNumbered}
use Rattle.wc_dedupe.proofs.numbers.are_some_numbered.Given as goal

abbrev pub invariant-loop-name : goal.invariant-loop-name
invariant-loop-name l = LacksNumbered (names_of (take l.name-index l.names))
