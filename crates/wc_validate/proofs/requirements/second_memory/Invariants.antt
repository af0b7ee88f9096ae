use Rattle.std.proofs.Common.{map}
use Rattle.wc_validate.specs.Exports.Map.{export_entry}
use Rattle.wc_validate.proofs.MissingLemmas.{MemoriesPassed}
use Rattle.wc_validate.proofs.requirements.second_memory.Given as goal

abbrev pub invariant-loop-name : goal.invariant-loop-name
invariant-loop-name l = MemoriesPassed l.found (map export_entry l.names.entries) (map export_entry l.name-iterator)
