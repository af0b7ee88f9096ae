use Rattle.std.proofs.Common.{[], ◌∷◌, ◌++◌, ◌∙◌, map, ap}
use Rattle.std.specs.List.{flat_map}
use Rattle.wc_resolve.specs.Roots.{id_index}
use Rattle.wc_resolve.specs.Futures.{entry_view, futures_of}
use Rattle.wc_resolve.specs.declared.walk.TypeStep.TheVariants.{Enter}
use Rattle.wc_resolve.proofs.WalkLemmas.{walk_length_leave}
use Rattle.wc_resolve.proofs.FutureWalkLemmas.{futures_start, future_enter, future_walk_length, future_within}
use Rattle.wc_resolve.proofs.futures.list.Goals as goal

pub steps-init : goal.steps-init
steps-init c = rw (c.in_ok-enter_all.ensures, c.new-steps.ensures.items, c.new-found.ensures.items) (futures_start c.args.resolve.now.types c.args.roots.items c.requires)

pub steps-smaller-in-Continue-branch-2 : goal.steps-smaller-in-Continue-branch-2
steps-smaller-in-Continue-branch-2 c = walk_length_leave c.args.resolve.now.types c.steps.steps.items c.pop.new.self.items c.in-Leave.id (c.in-Some.ensures.items ∙ ap (λ z. c.pop.new.self.items ++ z ∷ []) c.in-Leave.is)

pub futures_entry-entry-requires : goal.futures_entry-entry-requires
futures_entry-entry-requires c = future_within c.args.resolve.now.types (flat_map (futures_of c.args.resolve.now.types) (map id_index c.args.roots.items)) (map id_index c.steps.found.items) c.steps.steps.items c.pop.new.self.items (Enter c.in-Enter.id) c.steps.invariant (c.in-Some.ensures.items ∙ ap (λ z. c.pop.new.self.items ++ z ∷ []) c.in-Enter.is)

pub steps-smaller : goal.steps-smaller
steps-smaller c =
    rw (c.in_ok-enter_reversed-in-Enter.ensures, c.deref.ensures.value, c.in_ok-leave_carrier-in-Enter.ensures)
    (future_walk_length c.args.resolve.now.types c.steps.steps.items c.pop.new.self.items c.in-Enter.id (entry_view c.futures_entry-entry.result.now) c.futures_entry-entry.ensures
    (c.in-Some.ensures.items ∙ ap (λ z. c.pop.new.self.items ++ z ∷ []) c.in-Enter.is))

pub steps-preserved : goal.steps-preserved
steps-preserved c =
    rw (c.in_ok-enter_reversed-in-Enter.ensures, c.deref.ensures.value, c.in_ok-leave_carrier-in-Enter.ensures)
    (future_enter c.args.resolve.now.types (flat_map (futures_of c.args.resolve.now.types) (map id_index c.args.roots.items)) (map id_index c.steps.found.items) c.steps.steps.items c.pop.new.self.items c.in-Enter.id
    (entry_view c.futures_entry-entry.result.now) c.futures_entry-entry.ensures c.steps.invariant (c.in-Some.ensures.items ∙ ap (λ z. c.pop.new.self.items ++ z ∷ []) c.in-Enter.is))
