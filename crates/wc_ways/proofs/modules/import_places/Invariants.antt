use Rattle.wc_read.specs.Imports.{import_values}
use Rattle.wc_ways.specs.Private.Modules.{AreFirstPlaces}
use Rattle.wc_ways.proofs.modules.import_places.Given as goal

abbrev pub invariant-loop-position : goal.invariant-loop-position
invariant-loop-position l = AreFirstPlaces (import_values l.imports) l.position l.places.entries
