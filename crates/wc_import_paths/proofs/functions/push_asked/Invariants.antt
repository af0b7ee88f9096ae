use Rattle.std.proofs.Common.{◌≡◌, ◌++◌, ℕ, List, map, take}
use Rattle.wc_why.specs.Tree.{tree_caller_view}
use Rattle.wc_import_paths.specs.Functions.{functions_asked}
use Rattle.wc_import_paths.specs.Private.Functions.{AreWanted}
use Rattle.wc_import_paths.proofs.functions.push_asked.Given as goal

abbrev pub invariant-loop-function : goal.invariant-loop-function
invariant-loop-function l =
    (texts : List (List ℕ)) → AreWanted texts l.wanted
    → map tree_caller_view l.asked.items ≡ map tree_caller_view l.fn.asked.items ++ functions_asked texts (map tree_caller_view (take l.function-index l.functions))
