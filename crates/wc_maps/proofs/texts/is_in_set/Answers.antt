use Rattle.std.proofs.Common.{◌∙◌}
use Rattle.wc_maps.proofs.SetLemmas.{set_in}
use Rattle.wc_maps.proofs.texts.is_in_set.Goals as goal

pub returns : goal.returns
returns c = c.contains.ensures ∙ set_in c.args.set.now.keys c.args.text.now
