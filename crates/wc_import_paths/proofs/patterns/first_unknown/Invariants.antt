use Rattle.std.proofs.Common.{◌≡◌, None, map, take}
use Rattle.wc_read.specs.Imports.{import_value}
use Rattle.wc_import_paths.specs.Patterns.{pattern_view}
use Rattle.wc_import_paths.specs.Patterns.{first_unknown}
use Rattle.wc_import_paths.proofs.patterns.first_unknown.Given as goal

abbrev pub invariant-loop-pattern : goal.invariant-loop-pattern
invariant-loop-pattern l = first_unknown (map import_value l.imports) (map pattern_view (take l.pattern-index l.patterns)) ≡ None
