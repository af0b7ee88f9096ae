use Rattle.std.proofs.Common.{◌≡◌, map, take}
use Rattle.std.specs.List.{filter_map, slice_get}
use Rattle.wc_read.specs.Renumbering.{renumber_func_type}
use Rattle.wc_read.specs.Types.{func_type_value}
use Rattle.wc_gc.specs.NewIndices.{new_of}
use Rattle.wc_gc.proofs.assemble.types_at.Given as goal

abbrev pub invariant-loop-index : goal.invariant-loop-index
invariant-loop-index l =
    map func_type_value l.found.items
    ≡ map (renumber_func_type (new_of l.new)) (filter_map (slice_get (map func_type_value l.types)) (take l.index-index l.indices))
