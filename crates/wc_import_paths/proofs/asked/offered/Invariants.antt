use Rattle.std.proofs.Common.{map, take}
use Rattle.wc_read.specs.Imports.{import_value}
use Rattle.wc_import_paths.specs.Private.Asked.{HasOffered}
use Rattle.wc_import_paths.proofs.asked.offered.Given as goal

abbrev pub invariant-loop-import : goal.invariant-loop-import
invariant-loop-import l = HasOffered l.set.keys (map import_value (take l.import-index l.imports))
