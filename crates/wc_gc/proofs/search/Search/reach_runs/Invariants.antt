use Rattle.std.proofs.Common.{take}
use Rattle.wc_read.specs.Bodies.{local_types}
use Rattle.wc_read.specs.Decoded.{decoded_module}
use Rattle.wc_gc.proofs.ReachLemmas.{AreTypesFound}
use Rattle.wc_gc.proofs.search.Search.reach_runs.Given as goal

abbrev pub invariant-loop-run : goal.invariant-loop-run
invariant-loop-run g l = AreTypesFound g.L.LiveSet.has (decoded_module l.adapter) (local_types (take l.run-index l.runs)) l.initial.self l.self l.there
