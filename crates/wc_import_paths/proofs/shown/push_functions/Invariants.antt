use Rattle.std.proofs.Common.{◌≡◌, ◌++◌, map, take}
use Rattle.wc_paths.specs.Counts.{counts_value}
use Rattle.wc_why.specs.Tree.{tree_caller_view}
use Rattle.wc_import_paths.specs.Shown.{end_view, function_ends}
use Rattle.wc_import_paths.proofs.shown.push_functions.Given as goal

abbrev pub invariant-loop-function : goal.invariant-loop-function
invariant-loop-function l =
    map end_view l.shown.items ≡ map end_view l.fn.shown.items
    ++ function_ends (counts_value l.counts) l.reached (map tree_caller_view (take l.function-index l.functions))
