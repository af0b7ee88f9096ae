use Rattle.wc_read.specs.Imports.{SpellsImports}
use Rattle.wc_read.specs.Reading.Reader.{vector_at}
use Rattle.wc_read.specs.Reading.Imports.{import_at}
use Rattle.wc_read.proofs.MeetsLemmas.{one_value}
use Rattle.wc_read.proofs.ImportsLemmas.{imports_meet}
use Rattle.wc_read.proofs.laws.imports_unique.Goals as goal

pub returns : goal.returns
returns c = one_value SpellsImports (vector_at import_at) imports_meet
