use Rattle.std.proofs.Common.{take}
use Rattle.wc_read.specs.Operators.{instr_values}
use Rattle.wc_paths.specs.Private.CallLists.{ListsUnder, have_call}
use Rattle.wc_paths.proofs.call_lists.list_calls.Given as goal

abbrev pub invariant-loop-operator : goal.invariant-loop-operator
invariant-loop-operator l =
    ListsUnder (λ q. have_call l.firsts q (instr_values (take l.operator-index l.operators))) l.function l.fn.lists.entries l.lists.entries
