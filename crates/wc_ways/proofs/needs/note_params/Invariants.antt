use Rattle.std.proofs.Common.{take}
use Rattle.wc_resolve.specs.Roots.{param_roots}
use Rattle.wc_ways.specs.Private.Needs.{Finds}
use Rattle.wc_ways.proofs.needs.note_params.Given as goal

abbrev pub invariant-loop-position : goal.invariant-loop-position
invariant-loop-position l = Finds l.needing l.fn.found l.found (param_roots (take l.position l.params))
