use Rattle.std.proofs.Common.{◌≡◌, ◌++◌, take}
use Rattle.wc_paths.proofs.NamesLemmas.{locals_parts}
use Rattle.wc_paths.proofs.items.put_locals.Given as goal

abbrev pub invariant-loop-run : goal.invariant-loop-run
invariant-loop-run l = l.names.items ≡ l.initial.names.items ++ locals_parts (take l.run-index l.runs)
