use Rattle.std.proofs.Common.{◌≡◌, ◌++◌, take}
use Rattle.wc_paths.proofs.NamesLemmas.{expressions_parts}
use Rattle.wc_paths.proofs.names.put_expressions.Given as goal

abbrev pub invariant-loop-expression : goal.invariant-loop-expression
invariant-loop-expression l = l.names.items ≡ l.initial.names.items ++ expressions_parts (take l.expression-index l.expressions)
