use Rattle.std.proofs.Common.{List, subst, arith}
use Rattle.std.proofs.lemmas.List.{take_all}
use Rattle.wc_dedupe.specs.Private.NamePositions.{Texts, names_of}
use Rattle.wc_dedupe.specs.Private.Numbers.{LacksNumbered}
use Rattle.wc_dedupe.proofs.NumberedLemmas.{lacks_none, lacks_more}
use Rattle.wc_dedupe.proofs.NamePositionLemmas.{no_texts}
use Rattle.wc_dedupe.proofs.numbers.are_some_numbered.Goals as goal

pub loop-name-init : goal.loop-name-init
loop-name-init c = lacks_none

pub loop-name-preserved : goal.loop-name-preserved
loop-name-preserved c = lacks_more c.args.names.now c.loop-name.name-index no_texts c.loop-name-test.true c.loop-name.invariant c.if-ends_with.ensures.cases

pub returns : goal.returns
returns c = λ _. subst (λ (ts : List Texts). LacksNumbered (names_of ts)) (take_all c.loop-name.name-index c.args.names.now (omega (arith, c.loop-name-test.false))) c.loop-name.invariant
