use Rattle.wc_gc.proofs.RestrictionLemmas.{trimmed_restricts}
use Rattle.wc_gc.proofs.restriction_laws.trimmed_restricts.Goals as goal

pub returns : goal.returns
returns c = trimmed_restricts
