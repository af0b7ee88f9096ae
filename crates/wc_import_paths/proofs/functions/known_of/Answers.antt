use Rattle.wc_import_paths.proofs.FunctionLemmas.{known_more}
use Rattle.wc_import_paths.proofs.functions.known_of.Goals as goal

pub loop-function-preserved : goal.loop-function-preserved
loop-function-preserved c =
    known_more c.args.functions.now c.loop-function.function-index _ c.loop-function.known c.note_known.new.known c.loop-function-test.true
    c.loop-function.invariant c.in_ok-note_known.ensures
