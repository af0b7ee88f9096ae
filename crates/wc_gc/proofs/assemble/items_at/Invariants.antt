use Rattle.std.proofs.Common.{◌≡◌, take}
use Rattle.std.specs.List.{filter_map, slice_get}
use Rattle.wc_gc.proofs.assemble.items_at.Given as goal

abbrev pub invariant-loop-index : goal.invariant-loop-index
invariant-loop-index g l = l.found.items ≡ filter_map (slice_get l.items) (take l.index-index l.indices)
