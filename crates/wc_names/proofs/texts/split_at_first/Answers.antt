use Rattle.std.proofs.lemmas.Str.Pattern.{split_parts}
use Rattle.wc_names.proofs.texts.split_at_first.Goals as goal

pub returns : goal.returns
returns c = split_parts c.args.at c.args.text.now c.split_once.result c.split_once.ensures.cases c.requires
