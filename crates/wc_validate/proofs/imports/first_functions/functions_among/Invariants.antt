use Rattle.wc_validate.proofs.FirstFunctionLemmas.{HasPositions}
use Rattle.wc_validate.proofs.FirstPositionLemmas.{HasPosition}
use Rattle.wc_validate.proofs.imports.first_functions.functions_among.Given as goal

abbrev pub invariant-loop-name : goal.invariant-loop-name
invariant-loop-name l = HasPosition HasPositions l.names.entries l._name-iterator l.positions.entries l.position
