use Rattle.std.proofs.Common.{◌≡◌, ◌++◌, List, map}
use Rattle.std.specs.List.{flat_map, range_with_len}
use Rattle.wc_read.specs.Imports.{import_values}
use Rattle.wc_paths.specs.Counts.{counts_value}
use Rattle.wc_import_paths.specs.Shown.{end_view, import_end_at}
use Rattle.wc_module_ways.specs.AdapterNames.{HasNames}
use Rattle.wc_module_ways.specs.Adapters.{Given}
use Rattle.wc_module_ways.specs.Modules.{is_core_shown}
use Rattle.wc_module_ways.proofs.core_tree.push_one.Given as goal

abbrev pub invariant-loop-position : goal.invariant-loop-position
invariant-loop-position l =
    (given : List Given) → HasNames given l.of.names.now.keys → map end_view l.shown.items ≡ map end_view l.fn.shown.items
    ++ flat_map (import_end_at l.position_of_part (counts_value l.counts) (is_core_shown given l.of.is_library l.of.asked.now) (import_values l.imports))
    (range_with_len 0 l.position)
