use Rattle.wc_names.proofs.ExportMeaningLemmas.{classified_export_unique}
use Rattle.wc_names.proofs.laws.exports_unique.Goals as goal

pub returns : goal.returns
returns c = classified_export_unique
