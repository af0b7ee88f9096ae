use Rattle.wc_encoder.proofs.DependencyWalkLemmas.{IsDependencyWalk}
use Rattle.wc_encoder.proofs.dependencies.are_dependencies_before.Given as goal

abbrev pub invariant-loop-key : goal.invariant-loop-key
invariant-loop-key l = IsDependencyWalk l.resolve l.exports.entries l._key-iterator l.index
