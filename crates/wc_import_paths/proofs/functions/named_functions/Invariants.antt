use Rattle.std.proofs.Common.{◌≡◌, map}
use Rattle.wc_read.specs.Names.{name_entries}
use Rattle.wc_why.specs.Tree.{tree_caller_view}
use Rattle.wc_import_paths.specs.Functions.{functions_named}
use Rattle.wc_import_paths.proofs.functions.named_functions.Given as goal

abbrev pub invariant-loop-index : goal.invariant-loop-index
invariant-loop-index l = map tree_caller_view l.functions.items ≡ functions_named (name_entries l.names) l.index
