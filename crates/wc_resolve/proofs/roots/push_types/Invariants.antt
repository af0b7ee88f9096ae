use Rattle.std.proofs.Common.{[], ◌∷◌, String, map}
use Rattle.std.specs.declared.alloc.Global.{Global}
use Rattle.wc_resolve.specs.declared.ids.TypeId.{TypeId}
use Rattle.wc_resolve.specs.Roots.{id_index}
use Rattle.wc_resolve.proofs.PushedLemmas.{IsPushed}
use Rattle.wc_resolve.proofs.roots.push_types.Given as goal

abbrev pub invariant-loop-name : goal.invariant-loop-name
invariant-loop-name l = IsPushed (λ (e : String Global × TypeId). e.1.0 ∷ []) l.interface.types.entries l._name-iterator (map id_index l.fn.roots.items) (map id_index l.roots.items)
