use Rattle.wc_import_paths.specs.Functions.{has_alike}
use Rattle.wc_import_paths.proofs.FunctionLemmas.{none_here, shown_here}
use Rattle.wc_import_paths.proofs.functions.alike_name.Goals as goal

pub returns-in-Some : goal.returns-in-Some
returns-in-Some c =
    shown_here (has_alike c.args.text.now) c.args.functions.now c.loop-function.function-index _ c.loop-function-test.true c.loop-function.invariant _
    c.in-Some.shown c.in_ok-shown.ensures c.in-Some.is

pub loop-function-preserved : goal.loop-function-preserved
loop-function-preserved c =
    none_here (has_alike c.args.text.now) c.args.functions.now c.loop-function.function-index _ c.loop-function-test.true c.loop-function.invariant _
    c.in_ok-shown.ensures c.in-None.is
