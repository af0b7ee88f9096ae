use Rattle.std.proofs.Common.{◌≡◌, ◌++◌, String, map, take}
use Rattle.std.specs.List.{flat_map}
use Rattle.std.specs.declared.alloc.Global.{Global}
use Rattle.wc_resolve.specs.declared.types.WitType.{WitType}
use Rattle.wc_resolve.specs.Roots.{id_index, type_roots}
use Rattle.wc_resolve.proofs.roots.push_params.Given as goal

abbrev pub invariant-loop-param : goal.invariant-loop-param
invariant-loop-param l = map id_index l.roots.items ≡ map id_index l.fn.roots.items ++ flat_map (λ (p : String Global × WitType). type_roots p.1) (take l.param-index l.params)
