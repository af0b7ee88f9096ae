use Rattle.std.proofs.Common.{[], ◌∷◌, sym, map}
use Rattle.wc_read.specs.Imports.{import_value}
use Rattle.std.proofs.lemmas.List.{map-append}
use Rattle.wc_dedupe.proofs.RenamedLemmas.{renamed_imports_more}
use Rattle.wc_dedupe.proofs.renaming.renamed_imports.Goals as goal

pub loop-i-preserved : goal.loop-i-preserved
loop-i-preserved c =
    rw (c.in_ok-push.ensures.items, map-append import_value c.loop-i.renamed.items (c.renamed_import.result ∷ []), c.loop-i.invariant, c.renamed_import.ensures)
    (sym (renamed_imports_more c.args.renames.now c.args.imports.now c.args.indices.now c.loop-i.i _ _ c.loop-i-test.true c.requires))
