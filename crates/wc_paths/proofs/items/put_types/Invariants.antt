use Rattle.std.proofs.Common.{◌≡◌, ◌++◌, take}
use Rattle.wc_paths.proofs.NamesLemmas.{types_parts}
use Rattle.wc_paths.proofs.items.put_types.Given as goal

abbrev pub invariant-loop-ty : goal.invariant-loop-ty
invariant-loop-ty l = l.names.items ≡ l.initial.names.items ++ types_parts (take l.ty-index l.types)
