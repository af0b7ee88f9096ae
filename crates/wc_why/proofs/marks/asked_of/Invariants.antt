use Rattle.std.proofs.Common.{◌≡◌, take}
use Rattle.wc_why.specs.Private.Marks.{asked_numbers}
use Rattle.wc_why.proofs.marks.asked_of.Given as goal

abbrev pub invariant-loop-target : goal.invariant-loop-target
invariant-loop-target l = l.asked.items ≡ asked_numbers l.numbers (take l.target-index l.targets)
