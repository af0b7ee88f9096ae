use Rattle.std.proofs.Common.{◌≡◌, true, []}
use Rattle.wc_read.specs.BodyOperators.{body_in, locals_read, operators_left, bytes_left}
use Rattle.wc_read.specs.Decoded.{decoded_module}
use Rattle.wc_gc.specs.Private.BodyCuts.{AreCutTo}
use Rattle.wc_gc.proofs.ReachLemmas.{IsBodyFound}
use Rattle.wc_gc.proofs.search.Search.reach_body.Given as goal

abbrev pub invariant-loop-operators : goal.invariant-loop-operators
invariant-loop-operators g l = IsBodyFound g.L.LiveSet.has (decoded_module l.adapter) (body_in l.bytes) (locals_read l.initial.operators) l.fn.self l.self (operators_left l.operators)
    × (l.cut.is_kept ≡ true → (l.cut.run.now ≡ []) × AreCutTo l.cut.stretches.items (operators_left l.initial.operators) (operators_left l.operators))

abbrev pub decreases-loop-operators : goal.decreases-loop-operators
decreases-loop-operators g l = bytes_left l.operators
