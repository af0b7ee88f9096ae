use Rattle.wc_read.specs.Imports.{import_values}
use Rattle.wc_gc.proofs.ImportPositionLemmas.{ArePositions}
use Rattle.wc_gc.proofs.import_positions.import_positions.Given as goal

abbrev pub invariant-loop-position : goal.invariant-loop-position
invariant-loop-position l = ArePositions (import_values l.imports) l.order l.position l.positions.items
