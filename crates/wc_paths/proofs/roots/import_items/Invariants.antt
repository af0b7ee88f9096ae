use Rattle.wc_read.specs.Imports.{import_values}
use Rattle.wc_paths.proofs.ImportLemmas.{AreCounted}
use Rattle.wc_paths.proofs.roots.import_items.Given as goal

abbrev pub invariant-loop-import : goal.invariant-loop-import
invariant-loop-import l = AreCounted (import_values l.imports) l.import-index l.counts l.items.items
