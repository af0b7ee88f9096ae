use Rattle.std.proofs.Common.{◌≡◌, [], map, take}
use Rattle.std.specs.List.{fold}
use Rattle.wc_resolve.specs.Flat.{flat_payload, join_flats, flat_entry, lists}
use Rattle.wc_resolve.proofs.flattening.flat_variant.Given as goal

abbrev pub invariant-loop-case : goal.invariant-loop-case
invariant-loop-case l = l.shared.items ≡ fold (λ shared t. join_flats shared (flat_payload (flat_entry (lists l.flats)) t)) [] (take l.case-index (map (λ c. c.1) l.cases))
