use Rattle.std.proofs.Common.{◌≡◌, ◌++◌, take}
use Rattle.wc_paths.proofs.NamesLemmas.{code_parts}
use Rattle.wc_paths.proofs.items.put_code.Given as goal

abbrev pub invariant-loop-instr : goal.invariant-loop-instr
invariant-loop-instr l = l.names.items ≡ l.initial.names.items ++ code_parts (take l.instr-index l.code)
