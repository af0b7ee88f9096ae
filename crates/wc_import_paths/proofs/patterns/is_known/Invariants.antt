use Rattle.std.proofs.Common.{◌≡◌, false, map, take}
use Rattle.std.specs.List.{list_any}
use Rattle.wc_read.specs.Imports.{import_value}
use Rattle.wc_import_paths.specs.Patterns.{pattern_view}
use Rattle.wc_import_paths.specs.Patterns.{is_match}
use Rattle.wc_import_paths.proofs.patterns.is_known.Given as goal

abbrev pub invariant-loop-import : goal.invariant-loop-import
invariant-loop-import l = list_any (is_match (pattern_view l.pattern)) (map import_value (take l.import-index l.imports)) ≡ false
