use Rattle.std.proofs.Common.{◌≡◌, false, map, take}
use Rattle.wc_why.specs.Tree.{tree_caller_view}
use Rattle.wc_import_paths.specs.Functions.{are_named}
use Rattle.wc_import_paths.proofs.functions.are_named.Given as goal

abbrev pub invariant-loop-function : goal.invariant-loop-function
invariant-loop-function l = are_named (map tree_caller_view (take l.function-index l.functions)) ≡ false
