use Rattle.std.proofs.Common.{◌≡◌, take}
use Rattle.wc_resolve.specs.Flat.{flat_entry, flat_types_kept, flatten_types, lists}
use Rattle.wc_resolve.proofs.flattening.flat_tuple.Given as goal

abbrev pub invariant-loop-ty : goal.invariant-loop-ty
invariant-loop-ty l = l.flat.items ≡ take flat_types_kept (flatten_types (flat_entry (lists l.flats)) (take l.ty-index l.types))
