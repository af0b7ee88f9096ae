use Rattle.std.proofs.Common.{String, Global}
use Rattle.wc_resolve.specs.Roots.{function_roots}
use Rattle.wc_resolve.specs.Views.{function_view}
use Rattle.wc_resolve.specs.declared.functions.Function.{Function}
use Rattle.wc_ways.proofs.NeedLemmas.{FindsWalk}
use Rattle.wc_ways.proofs.needs.note_functions.Given as goal

abbrev pub invariant-loop-name : goal.invariant-loop-name
invariant-loop-name l = FindsWalk l.needing (λ (e : String Global × Function). function_roots (function_view e.1)) l.functions.entries l.fn.found l._name-iterator l.found
