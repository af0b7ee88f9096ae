use Rattle.std.proofs.Common.{◌≡◌, None, map, take}
use Rattle.std.specs.List.{find}
use Rattle.wc_why.specs.Tree.{tree_caller_view}
use Rattle.wc_import_paths.specs.Functions.{has_alike}
use Rattle.wc_import_paths.proofs.functions.alike_name.Given as goal

abbrev pub invariant-loop-function : goal.invariant-loop-function
invariant-loop-function l = find (has_alike l.text) (map tree_caller_view (take l.function-index l.functions)) ≡ None
