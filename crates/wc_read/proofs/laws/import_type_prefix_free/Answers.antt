use Rattle.wc_read.specs.Imports.{SpellsImportType}
use Rattle.wc_read.specs.Reading.Imports.{import_type_at}
use Rattle.wc_read.proofs.FormatLemmas.{prefix_free}
use Rattle.wc_read.proofs.ImportsLemmas.{import_type_meets}
use Rattle.wc_read.proofs.laws.import_type_prefix_free.Goals as goal

pub returns : goal.returns
returns c = prefix_free SpellsImportType import_type_at import_type_meets
