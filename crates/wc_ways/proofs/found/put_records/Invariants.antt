use Rattle.std.proofs.Common.{◌≡◌, ◌++◌, List, map, ℕ}
use Rattle.std.specs.List.{flat_map}
use Rattle.wc_paths.specs.Counts.{counts_value}
use Rattle.wc_read.specs.Imports.{ImportValue}
use Rattle.wc_validate.specs.Imports.Iter.{imports_left}
use Rattle.wc_world.specs.Views.{ComponentWorldView}
use Rattle.wc_ways.specs.Found.{recorded_found, records_found}
use Rattle.wc_ways.specs.Private.AskedKeys.{IsAskedOf}
use Rattle.wc_ways.specs.Private.Modules.{ArePlaces}
use Rattle.wc_ways.specs.Private.Wanted.{wanted_view}
use Rattle.wc_ways.proofs.found.put_records.Given as goal

abbrev pub invariant-loop-module : goal.invariant-loop-module
invariant-loop-module l =
    (w : ComponentWorldView) (key : List ℕ) (imports : List ImportValue) → IsAskedOf w key l.asking.keys.now → ArePlaces imports l.places.entries
    → map wanted_view l.wanted.items ++ flat_map (recorded_found w key l.asking.part (counts_value l.asking.rows.now.counts) imports) (imports_left l.module-iterator)
    ≡ map wanted_view l.fn.wanted.items ++ records_found w key l.asking.part (counts_value l.asking.rows.now.counts) imports l.records
