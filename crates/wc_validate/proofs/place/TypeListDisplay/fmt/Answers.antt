use Rattle.std.proofs.Common.{arith, rules}
use Rattle.std.proofs.lemmas.Grind.{common_steps}
use Rattle.wc_validate.proofs.place.TypeListDisplay.fmt.Goals as goal

pub loop-ty-preserved : goal.loop-ty-preserved
loop-ty-preserved g c = first_of (search rules, grind (arith, common_steps))

pub returns-after-loop-ty-clause-writes : goal.returns-after-loop-ty-clause-writes
returns-after-loop-ty-clause-writes g c = first_of (search rules, grind (arith, common_steps))
