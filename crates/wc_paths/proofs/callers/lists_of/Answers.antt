use Rattle.wc_paths.specs.Private.Callers.{is_calling}
use Rattle.wc_paths.proofs.CallerLemmas.{functions_more}
use Rattle.wc_paths.proofs.callers.lists_of.Goals as goal

pub loop-index-preserved : goal.loop-index-preserved
loop-index-preserved c =
    functions_more (is_calling c.args.functions) c.loop-index.index c.loop-index.lists.entries c.list_function.new.lists.entries c.loop-index.invariant
    c.in_ok-list_function.ensures
