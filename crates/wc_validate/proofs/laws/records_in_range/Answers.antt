use Rattle.std.proofs.Common.{subst}
use Rattle.wc_names.specs.Laws.{MeaningsInRange}
use Rattle.wc_validate.proofs.LawLemmas.{entry_in}
use Rattle.wc_validate.proofs.RecordLawLemmas.{records_in}
use Rattle.wc_validate.proofs.laws.records_in_range.Goals as goal

pub returns : goal.returns
returns c =
    records_in c.args.encoder.now (entry_in c.args.encoder.now.resolve (subst MeaningsInRange c.metadata-metadata.ensures.resolve c.meanings_in_range.ensures))
