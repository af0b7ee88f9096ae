use Rattle.std.proofs.Common.{◌≡◌, map, take}
use Rattle.wc_resolve.specs.Flat.{flat_entry, flat_types_kept, flatten_types, lists}
use Rattle.wc_resolve.proofs.flattening.flat_fields.Given as goal

abbrev pub invariant-loop-field : goal.invariant-loop-field
invariant-loop-field l = l.flat.items ≡ take flat_types_kept (flatten_types (flat_entry (lists l.flats)) (take l.field-index (map (λ f. f.1) l.fields)))
