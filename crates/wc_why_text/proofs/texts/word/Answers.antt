use Rattle.std.proofs.Common.{rules}
use Rattle.wc_why_text.specs.Texts.{word}
use Rattle.wc_why_text.proofs.texts.word.Goals as goal

pub returns : goal.returns
unfolding word
returns c = search rules
