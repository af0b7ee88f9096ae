use Rattle.std.proofs.Common.{[], ◌∷◌, String, Global}
use Rattle.wc_resolve.specs.declared.ids.TypeId.{TypeId}
use Rattle.wc_ways.proofs.NeedLemmas.{FindsWalk}
use Rattle.wc_ways.proofs.needs.note_types.Given as goal

abbrev pub invariant-loop-name : goal.invariant-loop-name
invariant-loop-name l = FindsWalk l.needing (λ (e : String Global × TypeId). e.1.0 ∷ []) l.types.entries l.fn.found l._name-iterator l.found
