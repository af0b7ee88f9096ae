use Rattle.wc_write.proofs.WritableModuleLemmas.{spelled_writable}
use Rattle.wc_write.proofs.laws.spelled_are_modules.Goals as goal

pub returns : goal.returns
returns c = spelled_writable
