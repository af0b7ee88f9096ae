use Rattle.std.proofs.Common.{◌∙◌, false, sym, true}
use Rattle.std.specs.Option.{option_map_or}
use Rattle.wc_why.specs.Tree.{TreeCallerView, tree_caller_view}
use Rattle.wc_import_paths.proofs.FunctionLemmas.{some_named}
use Rattle.wc_import_paths.proofs.SearchLemmas.{any_here}
use Rattle.wc_import_paths.proofs.functions.are_named.Goals as goal

pub returns-then-is_some : goal.returns-then-is_some
returns-then-is_some c =
    sym (any_here tree_caller_view (λ (f : TreeCallerView). option_map_or (λ name. true) f.name false) c.args.functions.now c.loop-function.function-index _
    c.loop-function-test.true (some_named _ (sym c.is_some.ensures ∙ c.if-is_some.true)))
