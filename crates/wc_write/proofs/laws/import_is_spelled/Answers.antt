use Rattle.wc_write.proofs.TextLemmas.{import_spelled}
use Rattle.wc_write.proofs.laws.import_is_spelled.Goals as goal

pub returns : goal.returns
returns c = import_spelled
