use Rattle.std.proofs.Common.{rules}
use Rattle.std.proofs.lemmas.Str.{chars_from_encodes}
use Rattle.wc_texts.specs.Escape.{quoted}
use Rattle.wc_texts.proofs.escape.quoted.Goals as goal

pub returns : goal.returns
unfolding quoted
returns c = search (rules, chars_from_encodes)
