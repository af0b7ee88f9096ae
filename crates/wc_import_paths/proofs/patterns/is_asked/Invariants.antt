use Rattle.std.proofs.Common.{◌≡◌, false, map, take}
use Rattle.std.specs.List.{list_any}
use Rattle.wc_read.specs.Imports.{import_value}
use Rattle.wc_import_paths.specs.Patterns.{pattern_view}
use Rattle.wc_import_paths.specs.Patterns.{is_match}
use Rattle.wc_import_paths.proofs.patterns.is_asked.Given as goal

abbrev pub invariant-loop-pattern : goal.invariant-loop-pattern
invariant-loop-pattern l = list_any (λ p. is_match p (import_value l.import)) (map pattern_view (take l.pattern-index l.patterns)) ≡ false
