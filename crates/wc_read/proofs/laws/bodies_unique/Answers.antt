use Rattle.wc_read.proofs.BodiesLemmas.{body_one}
use Rattle.wc_read.proofs.laws.bodies_unique.Goals as goal

pub returns : goal.returns
returns c = body_one
