use Rattle.std.proofs.Common.{◌≡◌, ◌++◌, List, map, ℕ}
use Rattle.std.specs.List.{flat_map, range_with_len}
use Rattle.wc_paths.specs.Counts.{counts_value}
use Rattle.wc_read.specs.Imports.{import_values}
use Rattle.wc_world.specs.Views.{ComponentWorldView}
use Rattle.wc_ways.specs.Found.{found_in_file}
use Rattle.wc_ways.specs.Private.AskedKeys.{IsAskedOf}
use Rattle.wc_ways.specs.Private.Wanted.{wanted_view}
use Rattle.wc_ways.proofs.found.put_imports.Given as goal

abbrev pub invariant-loop-position : goal.invariant-loop-position
invariant-loop-position l =
    (w : ComponentWorldView) (key : List ℕ) → IsAskedOf w key l.asking.keys.now
    → map wanted_view l.wanted.items ≡ map wanted_view l.fn.wanted.items
    ++ flat_map (found_in_file w key l.asking.part (counts_value l.asking.rows.now.counts) (import_values l.imports) l.records) (range_with_len 0 l.position)
