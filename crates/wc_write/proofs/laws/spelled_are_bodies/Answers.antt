use Rattle.wc_write.proofs.ShortestBodyLemmas.{body_is}
use Rattle.wc_write.proofs.laws.spelled_are_bodies.Goals as goal

pub returns : goal.returns
returns c = body_is
