use Rattle.std.proofs.Common.{◌<◌, map, length, rules}
use Rattle.wc_resolve.specs.Views.{type_view}
use Rattle.wc_resolve.specs.Kinds.{children}
use Rattle.wc_resolve.specs.declared.validate.order.IndexStep.TheVariants.{Enter, Leave}
use Rattle.wc_resolve.proofs.SearchLemmas.{target, walk_start, in_bounds, within_types, left, skipped, cycle_closed, entered, weight_entered, weight_left}
use Rattle.wc_resolve.proofs.validate.order.children_first.Goals as goal

pub steps-init : goal.steps-init
steps-init c = rw (c.in_ok-progress.ensures.items_if_clones_equal (λ y h. h), c.in_ok-steps.ensures, c.new-order.ensures.items) (walk_start (children (map type_view c.args.types.now)) (length c.args.types.now))

pub index_mut-requires : goal.index_mut-requires
index_mut-requires c = let small : target (Leave c.in-Leave.index) < length c.steps.progress.items = in_bounds (children (map type_view c.args.types.now)) (length c.args.types.now) c.steps.progress.items c.steps.steps.items c.pop.new.self.items c.in-Some.step (Leave c.in-Leave.index) c.steps.order.items c.in-Some.ensures.items c.in-Leave.is c.steps.invariant in search (rules, small)

pub steps-smaller-in-Continue-branch-3 : goal.steps-smaller-in-Continue-branch-3
steps-smaller-in-Continue-branch-3 c = weight_left (children (map type_view c.args.types.now)) (length c.args.types.now) c.in-Leave.index c.steps.progress.items c.steps.steps.items c.pop.new.self.items c.in-Some.step c.steps.order.items c.in-Some.ensures.items c.in-Leave.is c.steps.invariant

pub steps-preserved-in-Continue-branch-3 : goal.steps-preserved-in-Continue-branch-3
steps-preserved-in-Continue-branch-3 c = rw c.in_ok-push-in-Leave.ensures.items (left (children (map type_view c.args.types.now)) (length c.args.types.now) c.in-Leave.index c.steps.progress.items c.steps.steps.items c.pop.new.self.items c.in-Some.step c.steps.order.items c.in-Some.ensures.items c.in-Leave.is c.steps.invariant)

pub index-requires : goal.index-requires
index-requires c = let small : target (Enter c.in-Enter.index) < length c.steps.progress.items = in_bounds (children (map type_view c.args.types.now)) (length c.args.types.now) c.steps.progress.items c.steps.steps.items c.pop.new.self.items c.in-Some.step (Enter c.in-Enter.index) c.steps.order.items c.in-Some.ensures.items c.in-Enter.is c.steps.invariant in search (rules, small)

pub steps-preserved-in-Done : goal.steps-preserved-in-Done
steps-preserved-in-Done c = skipped (children (map type_view c.args.types.now)) (length c.args.types.now) c.in-Enter.index c.steps.progress.items c.steps.steps.items c.pop.new.self.items c.in-Some.step c.steps.order.items c.index.result.now c.in-Some.ensures.items c.in-Enter.is c.steps.invariant c.index.ensures c.in-Done.is

pub returns-in-Open-clause-fault : goal.returns-in-Open-clause-fault
returns-in-Open-clause-fault c = cycle_closed (children (map type_view c.args.types.now)) (length c.args.types.now) c.in-Enter.index c.steps.progress.items c.steps.steps.items c.pop.new.self.items c.in-Some.step c.steps.order.items c.index.result.now c.in-Some.ensures.items c.in-Enter.is c.steps.invariant c.index.ensures c.in-Open.is

pub index_mut-requires-in-New : goal.index_mut-requires-in-New
index_mut-requires-in-New c = let small : target (Enter c.in-Enter.index) < length c.steps.progress.items = in_bounds (children (map type_view c.args.types.now)) (length c.args.types.now) c.steps.progress.items c.steps.steps.items c.pop.new.self.items c.in-Some.step (Enter c.in-Enter.index) c.steps.order.items c.in-Some.ensures.items c.in-Enter.is c.steps.invariant in search (rules, small)

pub steps-smaller : goal.steps-smaller
steps-smaller c = rw (c.in_ok-enter_children-in-New.ensures, c.in_ok-push-in-New.ensures.items) (weight_entered (children (map type_view c.args.types.now)) (length c.args.types.now) c.in-Enter.index c.steps.progress.items c.steps.steps.items c.pop.new.self.items c.in-Some.step c.steps.order.items c.index.result.now c.in-Some.ensures.items c.in-Enter.is c.steps.invariant c.index.ensures c.in-New.is)

pub steps-preserved : goal.steps-preserved
steps-preserved c = rw (c.in_ok-enter_children-in-New.ensures, c.in_ok-push-in-New.ensures.items) (entered (children (map type_view c.args.types.now)) (length c.args.types.now) c.in-Enter.index c.steps.progress.items c.steps.steps.items c.pop.new.self.items c.in-Some.step c.steps.order.items c.index.result.now c.in-Some.ensures.items c.in-Enter.is c.steps.invariant c.index.ensures c.in-New.is (λ c2 k. c.requires c.in-Enter.index c2 k))

pub enter_children-requires : goal.enter_children-requires
enter_children-requires c = within_types (children (map type_view c.args.types.now)) (length c.args.types.now) c.steps.progress.items c.steps.steps.items c.pop.new.self.items c.in-Some.step (Enter c.in-Enter.index) c.steps.order.items c.in-Some.ensures.items c.in-Enter.is c.steps.invariant
