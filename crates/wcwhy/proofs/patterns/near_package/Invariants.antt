use Rattle.std.proofs.Common.{◌≡◌, None, map, take}
use Rattle.wc_read.specs.Imports.{import_value}
use Rattle.wc_import_paths.specs.Patterns.{pattern_view}
use Rattle.wcwhy.specs.Patterns.{near_package}
use Rattle.wcwhy.proofs.patterns.near_package.Given as goal

abbrev pub invariant-loop-one : goal.invariant-loop-one
invariant-loop-one l = near_package (map import_value (take l.one-index l.imports)) (pattern_view l.pattern) ≡ None
