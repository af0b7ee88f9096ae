use Rattle.std.proofs.Common.{map, take}
use Rattle.wc_why.specs.Tree.{tree_caller_view}
use Rattle.wc_import_paths.specs.Private.Functions.{AreKnown}
use Rattle.wc_import_paths.proofs.functions.known_of.Given as goal

abbrev pub invariant-loop-function : goal.invariant-loop-function
invariant-loop-function l = AreKnown (map tree_caller_view (take l.function-index l.functions)) l.known
