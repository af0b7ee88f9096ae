use Rattle.std.proofs.Common.{◌≡◌, ◌++◌, drop, map}
use Rattle.wc_read.specs.Imports.{import_value}
use Rattle.wc_read.specs.ImportItems.{positions_from}
use Rattle.wc_gc.proofs.import_positions.positions_in.Given as goal

abbrev pub invariant-loop-position : goal.invariant-loop-position
invariant-loop-position l = l.positions.items ++ positions_from l.space l.position (map import_value (drop l.position l.imports)) ≡ positions_from l.space 0 (map import_value l.imports)
