use Rattle.std.proofs.Common.{take}
use Rattle.wc_read.specs.Decoded.{decoded_module}
use Rattle.wc_gc.proofs.ReachLemmas.{AreTypesFound}
use Rattle.wc_gc.proofs.search.Search.reach_types.Given as goal

abbrev pub invariant-loop-ty : goal.invariant-loop-ty
invariant-loop-ty g l = AreTypesFound g.L.LiveSet.has (decoded_module l.adapter) (take l.ty-index l.types) l.initial.self l.self l.there
