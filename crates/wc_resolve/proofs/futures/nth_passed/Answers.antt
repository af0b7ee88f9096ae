use Rattle.std.proofs.Common.{[], ◌≡◌, ◌+◌, ◌-◌, ◌<◌, ◌≤◌, ◌^◌, ◌∙◌, ◌++◌, ℕ, ap, arith, drop, length, subst, sym}
use Rattle.std.specs.List.{slice_get}
use Rattle.std.specs.Option.{option_map, option_map_or}
use Rattle.wc_resolve.specs.Futures.{futures_from}
use Rattle.wc_resolve.specs.Roots.{id_index, param_roots, type_roots}
use Rattle.wc_resolve.proofs.FuturesAtLemmas.{IsPassed, counted_less, counted_more, outcome_end, params_next, passed_found, passed_left, passed_more}
use Rattle.wc_resolve.proofs.futures.nth_passed.Goals as goal

pub returns-then-left-count : goal.returns-then-left-count
returns-then-left-count c =
    let types = c.args.resolve.now.types in
    let after = option_map_or type_roots c.args.outcome [] in
    let i = c.loop-param.param-index in
    let part = futures_from types (type_roots c.param-item.result.1) in
    c.nth_in.ensures
    ∙ sym (passed_found (futures_from types (param_roots c.args.params.now ++ after)) (futures_from types (param_roots (drop i c.args.params.now) ++ after)) part (futures_from types (param_roots (drop (i + 1) c.args.params.now) ++ after)) c.args.n c.loop-param.left
    c.loop-param.invariant (params_next types c.args.params.now after i c.param-item.result c.loop-param-test.true c.param-item.is) (counted_less c.count_in-count.result (length part) c.loop-param.left c.count_in-count.ensures c.if-left-count.true))

pub loop-param-preserved : goal.loop-param-preserved
loop-param-preserved c =
    let types = c.args.resolve.now.types in
    let after = option_map_or type_roots c.args.outcome [] in
    let i = c.loop-param.param-index in
    let part = futures_from types (type_roots c.param-item.result.1) in
    let all = futures_from types (param_roots c.args.params.now ++ after) in
    let rest = futures_from types (param_roots (drop i c.args.params.now) ++ after) in
    let next = futures_from types (param_roots (drop (i + 1) c.args.params.now) ++ after) in
    let low = passed_left all rest c.args.n c.loop-param.left c.loop-param.invariant in
    let small : c.loop-param.left < 2 ^ 32 = let bound = c.requires.small in omega (arith, low, bound) in
    let same : c.count_in-count.result ≡ length part = counted_more c.count_in-count.result (length part) c.loop-param.left c.count_in-count.ensures small c.if-left-count.false in
    subst (λ (z : ℕ). IsPassed all next c.args.n (c.loop-param.left - z)) (sym same)
    (passed_more all rest part next c.args.n c.loop-param.left c.loop-param.invariant (params_next types c.args.params.now after i c.param-item.result c.loop-param-test.true c.param-item.is)
    (subst (λ (z : ℕ). z ≤ c.loop-param.left) same c.if-left-count.false))

pub returns-in_err-outcome : goal.returns-in_err-outcome
returns-in_err-outcome c =
    let types = c.args.resolve.now.types in
    ap (option_map id_index) c.from_residual.ensures
    ∙ sym (outcome_end types c.args.params.now c.args.outcome c.loop-param.param-index c.args.n c.loop-param.left c.loop-param-test.false c.loop-param.invariant
    ∙ ap (λ o. slice_get (futures_from types (option_map_or type_roots o [])) c.loop-param.left) c.in_err-outcome.was)

pub returns : goal.returns
returns c =
    let types = c.args.resolve.now.types in
    c.nth_in-2.ensures
    ∙ sym (outcome_end types c.args.params.now c.args.outcome c.loop-param.param-index c.args.n c.loop-param.left c.loop-param-test.false c.loop-param.invariant
    ∙ ap (λ o. slice_get (futures_from types (option_map_or type_roots o [])) c.loop-param.left) c.in_ok-outcome.was)
