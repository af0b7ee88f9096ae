use Rattle.std.proofs.Common.{◌≡◌, None, map, take}
use Rattle.wc_read.specs.Imports.{import_value}
use Rattle.wc_import_paths.specs.Patterns.{pattern_view}
use Rattle.wcwhy.specs.Patterns.{near_import}
use Rattle.wcwhy.proofs.patterns.near_import.Given as goal

abbrev pub invariant-loop-import : goal.invariant-loop-import
invariant-loop-import l = near_import (map import_value (take l.import-index l.imports)) (pattern_view l.pattern) ≡ None
