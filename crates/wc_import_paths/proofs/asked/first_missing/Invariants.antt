use Rattle.std.proofs.Common.{◌≡◌, List, None, map, take}
use Rattle.wc_read.specs.Imports.{ImportValue}
use Rattle.wc_import_paths.specs.Patterns.{pattern_view}
use Rattle.wc_import_paths.specs.Patterns.{first_unknown}
use Rattle.wc_import_paths.specs.Private.Asked.{HasOffered}
use Rattle.wc_import_paths.proofs.asked.first_missing.Given as goal

abbrev pub invariant-loop-pattern : goal.invariant-loop-pattern
invariant-loop-pattern l = (imports : List ImportValue) → HasOffered l.set.keys imports
    → first_unknown imports (map pattern_view (take l.pattern-index l.patterns)) ≡ None
