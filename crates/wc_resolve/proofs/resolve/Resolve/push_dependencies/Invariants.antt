use Rattle.std.proofs.Common.{String, map}
use Rattle.std.specs.Option.{option_to_list}
use Rattle.std.specs.declared.alloc.Global.{Global}
use Rattle.wc_resolve.specs.declared.ids.TypeId.{TypeId}
use Rattle.wc_resolve.specs.Dependencies.{dependency, id_of_interface}
use Rattle.wc_resolve.proofs.PushedLemmas.{IsPushed}
use Rattle.wc_resolve.proofs.resolve.Resolve.push_dependencies.Given as goal

abbrev pub invariant-loop-name : goal.invariant-loop-name
invariant-loop-name l = IsPushed (λ (e : String Global × TypeId). option_to_list (dependency l.self l.id.0 e.1.0)) l.interface.types.entries l._name-iterator (map id_of_interface l.fn.owners.items) (map id_of_interface l.owners.items)
