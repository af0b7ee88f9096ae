use Rattle.wc_import_paths.proofs.FunctionLemmas.{wanted_more}
use Rattle.wc_import_paths.proofs.functions.wanted_of.Goals as goal

pub loop-text-preserved : goal.loop-text-preserved
loop-text-preserved c =
    wanted_more c.args.texts.now c.loop-text.text-index _ c.loop-text.wanted c.note_wanted.new.wanted c.loop-text-test.true c.loop-text.invariant
    c.in_ok-note_wanted.ensures
