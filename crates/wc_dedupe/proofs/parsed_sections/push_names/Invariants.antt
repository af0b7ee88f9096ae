use Rattle.std.proofs.Common.{◌≡◌, ◌++◌, take}
use Rattle.wc_read.specs.Imports.{import_values}
use Rattle.wc_dedupe.specs.Private.NamePositions.{names_of}
use Rattle.wc_dedupe.specs.Renaming.{originals}
use Rattle.wc_dedupe.proofs.parsed_sections.push_names.Given as goal

abbrev pub invariant-loop-import : goal.invariant-loop-import
invariant-loop-import l = names_of l.names.items ≡ names_of l.fn.names.items ++ originals (import_values (take l.import-index l.imports))
