use Rattle.wc_graph.specs.Private.Alone.{AreAppended}
use Rattle.wc_graph.proofs.alone.push_alone.Given as goal

abbrev pub invariant-loop-position : goal.invariant-loop-position
invariant-loop-position l = AreAppended l.words l.items l.position l.initial.found.items l.found.items
