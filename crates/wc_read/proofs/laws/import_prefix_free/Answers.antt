use Rattle.wc_read.specs.Imports.{SpellsImport}
use Rattle.wc_read.specs.Reading.Imports.{import_at}
use Rattle.wc_read.proofs.MeetsLemmas.{one_spelling}
use Rattle.wc_read.proofs.ImportsLemmas.{import_meets}
use Rattle.wc_read.proofs.laws.import_prefix_free.Goals as goal

pub returns : goal.returns
returns c = λ a b rest others x y. one_spelling SpellsImport import_at import_meets a b x y rest others
