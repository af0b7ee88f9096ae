use Rattle.std.proofs.Common.{String, map}
use Rattle.std.specs.declared.alloc.Global.{Global}
use Rattle.wc_resolve.specs.declared.functions.Function.{Function}
use Rattle.wc_resolve.specs.Views.{function_view}
use Rattle.wc_resolve.specs.Roots.{function_roots, id_index}
use Rattle.wc_resolve.proofs.PushedLemmas.{IsPushed}
use Rattle.wc_resolve.proofs.roots.push_functions.Given as goal

abbrev pub invariant-loop-name : goal.invariant-loop-name
invariant-loop-name l = IsPushed (λ (e : String Global × Function). function_roots (function_view e.1)) l.interface.functions.entries l._name-iterator (map id_index l.fn.roots.items) (map id_index l.roots.items)
