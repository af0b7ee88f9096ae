use Rattle.std.proofs.Common.{take}
use Rattle.wc_graph.specs.Private.Ways.{IsStopped}
use Rattle.wc_graph.proofs.fronts.stop_at.Given as goal

abbrev pub invariant-loop-item : goal.invariant-loop-item
invariant-loop-item l = IsStopped (take l.item-index l.items) l.position l.initial.positions.items l.positions.items
