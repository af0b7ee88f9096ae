use Rattle.std.proofs.Common.{◌≡◌, map, take}
use Rattle.wc_import_paths.specs.Patterns.{pattern_view}
use Rattle.wcwhy.specs.Allowed.{entry_view}
use Rattle.wcwhy.specs.Private.Allowed.{entry_pattern}
use Rattle.wcwhy.proofs.allowed.entry_patterns.Given as goal

abbrev pub invariant-loop-entry : goal.invariant-loop-entry
invariant-loop-entry l = map pattern_view l.patterns.items ≡ map entry_pattern (map entry_view (take l.entry-index l.entries))
