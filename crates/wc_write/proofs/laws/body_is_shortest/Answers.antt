use Rattle.wc_write.proofs.ShortestBodyLemmas.{body_shortest}
use Rattle.wc_write.proofs.laws.body_is_shortest.Goals as goal

pub returns : goal.returns
returns c = body_shortest
