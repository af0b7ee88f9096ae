use Rattle.std.proofs.Common.{◌≡◌, ◌++◌, map, take}
use Rattle.wc_read.specs.Names.{name_entries}
use Rattle.wc_why.specs.Component.{caller_named}
use Rattle.wc_why.specs.Tree.{tree_caller_view}
use Rattle.wc_why.proofs.layout.push_callers.Given as goal

abbrev pub invariant-loop-function : goal.invariant-loop-function
invariant-loop-function l =
    map tree_caller_view l.callers.items ≡ map tree_caller_view l.fn.callers.items ++ map (caller_named (name_entries l.names)) (take l.function-index l.functions)
