use Rattle.std.proofs.Common.{rules}
use Rattle.wc_why_text.specs.Texts.{graph_text}
use Rattle.wc_why_text.proofs.texts.graph_text.Goals as goal

pub returns : goal.returns
unfolding graph_text
returns c = search rules
