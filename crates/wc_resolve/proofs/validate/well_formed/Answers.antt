use Rattle.std.proofs.lemmas.Result.{err_from_is_err_and}
use Rattle.wc_resolve.specs.ResolveParts.{parts_view}
use Rattle.wc_resolve.proofs.ExplainLemmas.{filled_iff, free_iff, in_range_iff, match_iff, named_iff, spelled_iff}
use Rattle.wc_resolve.proofs.RefusalLemmas.{by_value_refused, empty_refused, keys_refused, order_refused, range_refused, repeat_refused, spelling_refused, unnamed_refused}
use Rattle.wc_resolve.proofs.ResolveLemmas.{no_cycle}
use Rattle.wc_resolve.proofs.validate.well_formed.Goals as goal

pub returns-in_err-check_rule-clause-refusal : goal.returns-in_err-check_rule-clause-refusal
returns-in_err-check_rule-clause-refusal c =
    let p = err_from_is_err_and c.from_residual.result c.from_residual.ensures.1 in
    rw (p.1, p.2) (range_refused (parts_view c.args.parts.now) _ c.in_err-check_rule.ensures.refusal)

pub order_of-requires : goal.order_of-requires
order_of-requires c = (in_range_iff (parts_view c.args.parts.now)).0 c.in_ok-check_rule.ensures.kept

pub returns-in_err-order-clause-refusal : goal.returns-in_err-order-clause-refusal
returns-in_err-order-clause-refusal c =
    let r = parts_view c.args.parts.now in
    let p = err_from_is_err_and c.from_residual-in_err-order.result c.from_residual-in_err-order.ensures.1 in
    rw p.1 (order_refused r p.0 _ ((in_range_iff r).0 c.in_ok-check_rule.ensures.kept) c.in_err-order.ensures.fault p.2)

pub returns-in_err-check_rule-2-clause-refusal : goal.returns-in_err-check_rule-2-clause-refusal
returns-in_err-check_rule-2-clause-refusal c =
    let r = parts_view c.args.parts.now in
    let p = err_from_is_err_and c.from_residual-in_err-check_rule-2.result c.from_residual-in_err-check_rule-2.ensures.1 in
    rw (p.1, p.2) (unnamed_refused r _ ((in_range_iff r).0 c.in_ok-check_rule.ensures.kept) (no_cycle r.types c.in_ok-order.order.items c.in_ok-order.ensures.order)
    c.in_err-check_rule-2.ensures.refusal)

pub returns-in_err-check_rule-3-clause-refusal : goal.returns-in_err-check_rule-3-clause-refusal
returns-in_err-check_rule-3-clause-refusal c =
    let r = parts_view c.args.parts.now in
    let p = err_from_is_err_and c.from_residual-in_err-check_rule-3.result c.from_residual-in_err-check_rule-3.ensures.1 in
    rw (p.1, p.2) (keys_refused r _ ((in_range_iff r).0 c.in_ok-check_rule.ensures.kept) (no_cycle r.types c.in_ok-order.order.items c.in_ok-order.ensures.order)
    ((named_iff r).0 c.in_ok-check_rule-2.ensures.kept) c.in_err-check_rule-3.ensures.refusal)

pub returns-in_err-package_names-clause-refusal : goal.returns-in_err-package_names-clause-refusal
returns-in_err-package_names-clause-refusal c =
    let r = parts_view c.args.parts.now in
    let p = err_from_is_err_and c.from_residual-in_err-package_names.result c.from_residual-in_err-package_names.ensures.1 in
    rw (p.1, p.2) (repeat_refused r _ ((in_range_iff r).0 c.in_ok-check_rule.ensures.kept) (no_cycle r.types c.in_ok-order.order.items c.in_ok-order.ensures.order)
    ((named_iff r).0 c.in_ok-check_rule-2.ensures.kept) ((match_iff r).0 c.in_ok-check_rule-3.ensures.kept) c.in_err-package_names.ensures.refusal)

pub returns-in_err-check_rule-4-clause-refusal : goal.returns-in_err-check_rule-4-clause-refusal
returns-in_err-check_rule-4-clause-refusal c =
    let r = parts_view c.args.parts.now in
    let p = err_from_is_err_and c.from_residual-in_err-check_rule-4.result c.from_residual-in_err-check_rule-4.ensures.1 in
    rw (p.1, p.2) (spelling_refused r _ ((in_range_iff r).0 c.in_ok-check_rule.ensures.kept) (no_cycle r.types c.in_ok-order.order.items c.in_ok-order.ensures.order)
    ((named_iff r).0 c.in_ok-check_rule-2.ensures.kept) ((match_iff r).0 c.in_ok-check_rule-3.ensures.kept) c.in_ok-package_names.ensures.names.0 c.in_err-check_rule-4.ensures.refusal)

pub returns-in_err-check_rule-5-clause-refusal : goal.returns-in_err-check_rule-5-clause-refusal
returns-in_err-check_rule-5-clause-refusal c =
    let r = parts_view c.args.parts.now in
    let p = err_from_is_err_and c.from_residual-in_err-check_rule-5.result c.from_residual-in_err-check_rule-5.ensures.1 in
    rw (p.1, p.2) (by_value_refused r _ ((in_range_iff r).0 c.in_ok-check_rule.ensures.kept) (no_cycle r.types c.in_ok-order.order.items c.in_ok-order.ensures.order)
    ((named_iff r).0 c.in_ok-check_rule-2.ensures.kept) ((match_iff r).0 c.in_ok-check_rule-3.ensures.kept) c.in_ok-package_names.ensures.names.0
    ((spelled_iff r).0 c.in_ok-check_rule-4.ensures.kept) c.in_err-check_rule-5.ensures.refusal)

pub returns-in_err-check_rule-6-clause-refusal : goal.returns-in_err-check_rule-6-clause-refusal
returns-in_err-check_rule-6-clause-refusal c =
    let r = parts_view c.args.parts.now in
    let p = err_from_is_err_and c.from_residual-in_err-check_rule-6.result c.from_residual-in_err-check_rule-6.ensures.1 in
    rw (p.1, p.2) (empty_refused r _ ((in_range_iff r).0 c.in_ok-check_rule.ensures.kept) (no_cycle r.types c.in_ok-order.order.items c.in_ok-order.ensures.order)
    ((named_iff r).0 c.in_ok-check_rule-2.ensures.kept) ((match_iff r).0 c.in_ok-check_rule-3.ensures.kept) c.in_ok-package_names.ensures.names.0
    ((spelled_iff r).0 c.in_ok-check_rule-4.ensures.kept) ((free_iff r).0 c.in_ok-check_rule-5.ensures.kept) c.in_err-check_rule-6.ensures.refusal)

pub returns-clause-checked : goal.returns-clause-checked
returns-clause-checked c =
    let r = parts_view c.args.parts.now in
    record {
      formed = record {
        in_range = (in_range_iff r).0 c.in_ok-check_rule.ensures.kept;
        acyclic = no_cycle r.types c.in_ok-order.order.items c.in_ok-order.ensures.order;
        named = (named_iff r).0 c.in_ok-check_rule-2.ensures.kept;
        keyed = (match_iff r).0 c.in_ok-check_rule-3.ensures.kept;
        distinct = c.in_ok-package_names.ensures.names.0;
        spelled = (spelled_iff r).0 c.in_ok-check_rule-4.ensures.kept;
        no_resource_by_value = (free_iff r).0 c.in_ok-check_rule-5.ensures.kept;
        filled = (filled_iff r).0 c.in_ok-check_rule-6.ensures.kept;
      };
      ordered = c.in_ok-order.ensures.order;
      has_resources = c.in_ok-resources.ensures;
      has_names = c.in_ok-package_names.ensures.names.1;
    }
