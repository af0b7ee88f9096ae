use Rattle.std.proofs.Common.{◌≡◌, map, ◌++◌, take, drop}
use Rattle.wc_gc.specs.Image.{renumber_locals}
use Rattle.wc_gc.specs.NewIndices.{new_of}
use Rattle.wc_gc.proofs.new_indices.NewIndices.renumber_runs.Given as goal

abbrev pub invariant-loop-run : goal.invariant-loop-run
invariant-loop-run l =
    take l.run-index l.runs ++ map (renumber_locals (new_of l.self)) (drop l.run-index l.runs)
    ≡ map (renumber_locals (new_of l.self)) l.initial.runs
