use Rattle.wc_read.proofs.DecodingLemmas.{init_spelled}
use Rattle.wc_read.proofs.laws.initialiser_in_spelled.Goals as goal

pub returns : goal.returns
returns c = init_spelled
