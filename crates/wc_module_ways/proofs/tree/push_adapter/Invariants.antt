use Rattle.std.proofs.Common.{◌≡◌, ◌++◌, map}
use Rattle.std.specs.List.{flat_map, range_with_len}
use Rattle.wc_read.specs.Imports.{import_values}
use Rattle.wc_paths.specs.Counts.{counts_value}
use Rattle.wc_import_paths.specs.Shown.{end_view, import_end_at}
use Rattle.wc_module_ways.specs.Modules.{is_adapter_shown}
use Rattle.wc_module_ways.proofs.tree.push_adapter.Given as goal

abbrev pub invariant-loop-position : goal.invariant-loop-position
invariant-loop-position l =
    map end_view l.shown.items ≡ map end_view l.fn.shown.items
    ++ flat_map (import_end_at l.position_of_part (counts_value l.counts) (is_adapter_shown l.asked) (import_values l.imports)) (range_with_len 0 l.position)
