use Rattle.std.proofs.Common.{◌≡◌, map, ◌++◌, take, drop}
use Rattle.wc_read.specs.Renumbering.{renumber_val_type}
use Rattle.wc_gc.specs.NewIndices.{new_of}
use Rattle.wc_gc.proofs.new_indices.NewIndices.renumber.Given as goal

abbrev pub invariant-loop-ty : goal.invariant-loop-ty
invariant-loop-ty l =
    take l.ty-index l.types ++ map (renumber_val_type (new_of l.self)) (drop l.ty-index l.types)
    ≡ map (renumber_val_type (new_of l.self)) l.initial.types
