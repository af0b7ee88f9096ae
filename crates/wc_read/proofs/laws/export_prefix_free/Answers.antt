use Rattle.wc_read.specs.Exports.{SpellsExport}
use Rattle.wc_read.specs.Reading.Exports.{export_at}
use Rattle.wc_read.proofs.FormatLemmas.{prefix_free}
use Rattle.wc_read.proofs.ExportsLemmas.{export_meets}
use Rattle.wc_read.proofs.laws.export_prefix_free.Goals as goal

pub returns : goal.returns
returns c = prefix_free SpellsExport export_at export_meets
