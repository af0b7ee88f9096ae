use Rattle.std.proofs.Common.{◌≡◌, take}
use Rattle.wc_read.specs.Imports.{import_values}
use Rattle.wc_dedupe.specs.Renaming.{renamed_imports}
use Rattle.wc_dedupe.proofs.renaming.renamed_imports.Given as goal

abbrev pub invariant-loop-i : goal.invariant-loop-i
invariant-loop-i l = import_values l.renamed.items ≡ renamed_imports l.renames (import_values (take l.i l.imports)) (take l.i l.indices)
