use Rattle.std.proofs.Common.{◌∙◌}
use Rattle.wc_read.proofs.NamesAtLemmas.{found_among}
use Rattle.wc_read.proofs.names.has_index.Goals as goal

pub returns : goal.returns
returns c = c.is_some.ensures ∙ found_among c.get.result c.args.indices.now.entries c.args.index c.get.ensures
