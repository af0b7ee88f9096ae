use Rattle.std.proofs.Common.{◌∙◌, String, Global}
use Rattle.wc_resolve.specs.Roots.{function_roots}
use Rattle.wc_resolve.specs.Views.{function_view}
use Rattle.wc_resolve.specs.declared.functions.Function.{Function}
use Rattle.wc_ways.proofs.NeedLemmas.{finds_end, finds_next, finds_start}
use Rattle.wc_ways.proofs.needs.note_functions.Goals as goal

pub loop-name-init : goal.loop-name-init
loop-name-init c =
    finds_start c.args.needing.now (λ (e : String Global × Function). function_roots (function_view e.1)) c.args.functions.now.entries c.args.found.now _ (c.into_iter-name-iterator.ensures.into_iter_gives ∙ c.iter-name-items.ensures.rest)

pub loop-name-preserved : goal.loop-name-preserved
loop-name-preserved c =
    finds_next c.args.needing.now (λ (e : String Global × Function). function_roots (function_view e.1)) c.args.functions.now.entries c.args.found.now c.loop-name._name-iterator c.next.new.self (c.in-Some._name.now, c.in-Some.function.now) c.loop-name.found
    c.note_function.new.found c.in-Some.ensures.steps c.in_ok-note_function.ensures c.loop-name.invariant

pub returns : goal.returns
returns c =
    finds_end c.args.needing.now (λ (e : String Global × Function). function_roots (function_view e.1)) c.args.functions.now.entries c.args.found.now c.loop-name._name-iterator c.loop-name.found c.in-None.ensures.steps.0
    c.loop-name.invariant
