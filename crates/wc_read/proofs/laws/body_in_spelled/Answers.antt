use Rattle.wc_read.proofs.DecodingLemmas.{body_spelled}
use Rattle.wc_read.proofs.laws.body_in_spelled.Goals as goal

pub returns : goal.returns
returns c = body_spelled
