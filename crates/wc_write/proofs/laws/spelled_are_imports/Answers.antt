use Rattle.wc_write.proofs.ValueLemmas.{imports_are}
use Rattle.wc_write.proofs.laws.spelled_are_imports.Goals as goal

pub returns : goal.returns
returns c = imports_are
