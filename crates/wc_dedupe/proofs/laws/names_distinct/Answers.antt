use Rattle.std.proofs.Common.{[]}
use Rattle.wc_dedupe.proofs.DistinctLemmas.{names_are_distinct}
use Rattle.wc_dedupe.proofs.laws.names_distinct.Goals as goal

pub returns : goal.returns
returns c = names_are_distinct []
