use Rattle.std.proofs.Common.{subst}
use Rattle.wc_names.specs.Laws.{ExportsInRange}
use Rattle.wc_validate.proofs.RecordLawLemmas.{exports_in}
use Rattle.wc_validate.proofs.laws.recorded_exports_in_range.Goals as goal

pub returns : goal.returns
returns c = exports_in c.args.encoder.now (subst ExportsInRange c.metadata-metadata.ensures.resolve c.exports_in_range.ensures)
