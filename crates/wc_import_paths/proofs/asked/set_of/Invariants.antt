use Rattle.std.proofs.Common.{map, take}
use Rattle.wc_import_paths.specs.Patterns.{pattern_view}
use Rattle.wc_import_paths.specs.Private.Asked.{HasSame}
use Rattle.wc_import_paths.proofs.asked.set_of.Given as goal

abbrev pub invariant-loop-pattern : goal.invariant-loop-pattern
invariant-loop-pattern l = HasSame l.set.keys (map pattern_view (take l.pattern-index l.patterns))
