use Rattle.std.proofs.Common.{◌≡◌, take}
use Rattle.std.specs.List.{flat_map}
use Rattle.wc_paths.specs.Private.EqualTypes.{type_numbers}
use Rattle.wc_paths.proofs.equal_types.numbers_of.Given as goal

abbrev pub invariant-loop-ty : goal.invariant-loop-ty
invariant-loop-ty l = l.numbers.items ≡ flat_map type_numbers (take l.ty-index l.types)
