use Rattle.std.proofs.Common.{◌≡◌, ◌++◌, take}
use Rattle.std.specs.List.{flat_map}
use Rattle.wc_gc.specs.Private.MachineOperators.{operator_text}
use Rattle.wc_gc.proofs.added_code.append_code.Given as goal

abbrev pub invariant-loop-operator : goal.invariant-loop-operator
invariant-loop-operator l = l.out.items ≡ l.fn.out.items ++ flat_map operator_text (take l.operator-index l.code)
