use Rattle.std.proofs.Common.{String, map}
use Rattle.std.specs.declared.alloc.Global.{Global}
use Rattle.wc_resolve.specs.declared.functions.Function.{Function}
use Rattle.wc_resolve.specs.Views.{function_view}
use Rattle.wc_resolve.specs.Roots.{function_roots, id_index}
use Rattle.wc_resolve.proofs.PushedLemmas.{push_step}
use Rattle.wc_resolve.proofs.roots.push_functions.Goals as goal

pub loop-name-preserved : goal.loop-name-preserved
loop-name-preserved c =
    push_step (λ (e : String Global × Function). function_roots (function_view e.1)) c.args.interface.now.functions.entries c.loop-name._name-iterator c.next.new.self (c.in-Some._name.now, c.in-Some.function.now) (map id_index c.args.roots.now.items) (map id_index c.loop-name.roots.items) (map id_index c.push_function.new.roots.items)
    c.loop-name.invariant c.in-Some.ensures.steps c.in_ok-push_function.ensures
