use Rattle.std.proofs.Common.{◌<◌, ◌≤◌, arith}
use Rattle.wc_gc.proofs.NewIndexLemmas.{added_first, added_later}
use Rattle.wc_gc.proofs.new_indices.NewIndices.added_func.Goals as goal

pub returns-then-position-self-clause-index : goal.returns-then-position-self-clause-index
returns-then-position-self-clause-index c =
    added_first c.args.self.now c.args.position (let e : c.args.position < c.args.self.now.counts.added_imports = omega arith in e)

pub returns-clause-index : goal.returns-clause-index
returns-clause-index c =
    added_later c.args.self.now c.args.position (let e : c.args.self.now.counts.added_imports ≤ c.args.position = omega arith in e)
