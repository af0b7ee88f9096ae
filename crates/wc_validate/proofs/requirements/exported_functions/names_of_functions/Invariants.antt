use Rattle.wc_validate.proofs.ExportedFunctionLemmas.{NamesProgress}
use Rattle.wc_validate.proofs.requirements.exported_functions.names_of_functions.Given as goal

abbrev pub invariant-loop-name : goal.invariant-loop-name
invariant-loop-name l = NamesProgress l.names.entries l._name-iterator l.functions.keys
