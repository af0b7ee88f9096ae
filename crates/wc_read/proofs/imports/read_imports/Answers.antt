use Rattle.wc_read.specs.Imports.{SpellsImports}
use Rattle.wc_read.specs.Reading.Reader.{vector_at}
use Rattle.wc_read.specs.Reading.Imports.{import_at}
use Rattle.wc_read.proofs.ContentsLemmas.{items_spelled, none_spelled}
use Rattle.wc_read.proofs.ImportsLemmas.{imports_meet}
use Rattle.wc_read.proofs.imports.read_imports.Goals as goal

pub returns-clause-found : goal.returns-clause-found
returns-clause-found c = items_spelled SpellsImports (vector_at import_at) imports_meet (λ v. _) _ _ c.items.ensures

pub returns-clause-refused : goal.returns-clause-refused
returns-clause-refused c = none_spelled SpellsImports (vector_at import_at) imports_meet (λ v. _) _ _ c.items.ensures
