use Rattle.std.proofs.Common.{◌<◌, arith, length, map}
use Rattle.wc_paths.specs.Counts.{counts_value}
use Rattle.wc_why.specs.Tree.{tree_caller_view}
use Rattle.wc_import_paths.specs.Shown.{end_view, function_end}
use Rattle.wc_import_paths.proofs.PickedLemmas.{joined_more}
use Rattle.wc_import_paths.proofs.shown.push_functions.Goals as goal

pub loop-function-preserved : goal.loop-function-preserved
loop-function-preserved c =
    let within : c.loop-function.function-index < length c.args.functions.now = omega arith in
    joined_more tree_caller_view (function_end (counts_value c.args.counts.now) c.args.reached.now) c.args.functions.now c.loop-function.function-index _
    (map end_view c.args.shown.now.items) (map end_view c.loop-function.shown.items) (map end_view c.push_function.new.shown.items) within
    c.loop-function.invariant c.in_ok-push_function.ensures
