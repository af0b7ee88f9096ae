use Rattle.std.proofs.Common.{rules}
use Rattle.std.proofs.lemmas.Str.{chars_from_encodes}
use Rattle.wc_texts.specs.Escape.{escaped}
use Rattle.wc_texts.proofs.escape.escaped.Goals as goal

pub returns : goal.returns
unfolding escaped
returns c = search (rules, chars_from_encodes)
