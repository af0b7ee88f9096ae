use Rattle.wc_validate.proofs.FirstFunctionLemmas.{Covered}
use Rattle.wc_validate.proofs.imports.first_functions.FirstFunctions.among.Given as goal

abbrev pub invariant-loop-name : goal.invariant-loop-name
invariant-loop-name l = Covered l.instances.entries l.name-iterator l.first
