use Rattle.wc_write.proofs.TextLemmas.{imports_spelled}
use Rattle.wc_write.proofs.laws.imports_are_spelled.Goals as goal

pub returns : goal.returns
returns c = imports_spelled
