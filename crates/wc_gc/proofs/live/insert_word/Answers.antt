use Rattle.wc_gc.proofs.BitLemmas.{zero_word}
use Rattle.wc_gc.proofs.live.insert_word.Goals as goal

pub returns-then-word-eq0 : goal.returns-then-word-eq0
returns-then-word-eq0 g c = λ y. zero_word c.args.words.now c.args.index y _ c.if-word-eq0.true (c.requires.before y)
