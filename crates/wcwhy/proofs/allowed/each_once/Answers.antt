use Rattle.wcwhy.proofs.AllowedLemmas.{once_more}
use Rattle.wcwhy.proofs.allowed.each_once.Goals as goal

pub loop-text-preserved : goal.loop-text-preserved
loop-text-preserved c =
    once_more c.args.texts.now c.loop-text.seen.keys _ c.loop-text.found.items _ c.loop-text.text-index _ _ c.loop-text-test.true c.loop-text.invariant
    c.in_ok-insert.ensures.keys c.in_ok-insert.ensures.added c.in_ok-push_if.ensures
