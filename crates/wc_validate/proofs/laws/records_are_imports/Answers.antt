use Rattle.wc_validate.proofs.RecordLawLemmas.{records_are_imports}
use Rattle.wc_validate.proofs.laws.records_are_imports.Goals as goal

pub returns : goal.returns
returns c = records_are_imports c.args.encoder.now
