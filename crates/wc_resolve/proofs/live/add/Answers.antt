use Rattle.std.proofs.Common.{◌∙◌, ℕ, List, ap, sym, subst, [], ◌∷◌, ◌++◌, map, rules}
use Rattle.std.proofs.lemmas.List.{nil_from_length}
use Rattle.wc_resolve.specs.Views.{type_view}
use Rattle.wc_resolve.specs.Live.{listing_from, list_union}
use Rattle.wc_resolve.specs.Roots.{id_index}
use Rattle.wc_resolve.specs.declared.walk.TypeStep.TheVariants.{Enter}
use Rattle.wc_resolve.proofs.AcyclicLemmas.{children_within, ids_of_types}
use Rattle.wc_resolve.proofs.WalkLemmas.{walk_start, walk_skip, walk_leave, walk_enter, walk_end, walk_stop, step_within, walk_length_skip, walk_length_leave, walk_length_enter}
use Rattle.wc_resolve.proofs.WalkLemmas.{IsLiveWalk, children_are, stopped, stopped_first}
use Rattle.wc_resolve.proofs.ListUnionLemmas.{keeps_more, keeps_same}
use Rattle.wc_resolve.proofs.live.add.Goals as goal

pub steps-init : goal.steps-init
steps-init g c = record {
  walk = rw (c.in_ok-enter_all.ensures, c.new-steps.ensures.items)
      (walk_start c.args.resolve.now.types (g.K.KnownTypes.known_of c.args.known.now ++ c.args.live.now) c.args.roots.items c.requires);
  kept = keeps_same c.args.live.now;
}

pub returns-in_err-enter_all-clause-begun : goal.returns-in_err-enter_all-clause-begun
returns-in_err-enter_all-clause-begun g c =
    stopped _ _ (stopped_first c.args.resolve.now.types (g.K.KnownTypes.known_of c.args.known.now ++ c.args.live.now)
    (listing_from c.args.resolve.now.types (map id_index c.args.roots.items)))

pub steps-smaller-in-Continue-branch-2 : goal.steps-smaller-in-Continue-branch-2
steps-smaller-in-Continue-branch-2 g c =
    walk_length_leave c.args.resolve.now.types c.steps.steps.items c.pop.new.self.items c.in-Leave.id (c.in-Some.ensures.items
    ∙ ap (λ z. c.pop.new.self.items ++ z ∷ []) c.in-Leave.is)

pub steps-preserved-in-Continue-branch-2 : goal.steps-preserved-in-Continue-branch-2
steps-preserved-in-Continue-branch-2 g c = record {
  walk = (let known = g.K.KnownTypes.known_of c.args.known.now in
      let old = known ++ c.args.live.now in
      let goal = list_union old (listing_from c.args.resolve.now.types (map id_index c.args.roots.items)) in
      subst (λ (z : List ℕ). IsLiveWalk c.args.resolve.now.types old goal z c.pop.new.self.items) (sym c.in_ok-leave-in-Leave.ensures.added)
      (walk_leave c.args.resolve.now.types old goal (known ++ c.steps.live) c.steps.steps.items c.pop.new.self.items c.in-Leave.id c.steps.invariant.walk (c.in-Some.ensures.items
      ∙ ap (λ z. c.pop.new.self.items ++ z ∷ []) c.in-Leave.is)));
  kept = keeps_more c.args.live.now c.steps.live c.leave.new.live c.steps.invariant.kept c.in_ok-leave-in-Leave.ensures.kept;
}

pub returns-in_err-leave-in-Leave-clause-begun : goal.returns-in_err-leave-in-Leave-clause-begun
returns-in_err-leave-in-Leave-clause-begun g c =
    rw c.in_err-leave-in-Leave.ensures.err
    (stopped _ _ (walk_stop c.args.resolve.now.types (g.K.KnownTypes.known_of c.args.known.now ++ c.args.live.now) (g.K.KnownTypes.known_of c.args.known.now ++ c.steps.live)
    (listing_from c.args.resolve.now.types (map id_index c.args.roots.items)) c.steps.steps.items c.steps.invariant.walk))

pub returns-in_err-leave-in-Leave-clause-kept : goal.returns-in_err-leave-in-Leave-clause-kept
returns-in_err-leave-in-Leave-clause-kept g c =
    keeps_more c.args.live.now c.steps.live c.leave.new.live c.steps.invariant.kept c.in_err-leave-in-Leave.ensures.kept

pub type_def-requires : goal.type_def-requires
type_def-requires g c =
    step_within c.args.resolve.now.types (g.K.KnownTypes.known_of c.args.known.now ++ c.args.live.now)
    (list_union (g.K.KnownTypes.known_of c.args.known.now ++ c.args.live.now) (listing_from c.args.resolve.now.types (map id_index c.args.roots.items)))
    (g.K.KnownTypes.known_of c.args.known.now ++ c.steps.live) c.steps.steps.items c.pop.new.self.items (Enter c.in-Enter.id) c.steps.invariant.walk (c.in-Some.ensures.items
    ∙ ap (λ z. c.pop.new.self.items ++ z ∷ []) c.in-Enter.is)

pub returns-in_err-ids-in-Enter-clause-begun : goal.returns-in_err-ids-in-Enter-clause-begun
returns-in_err-ids-in-Enter-clause-begun g c =
    stopped _ _ (walk_stop c.args.resolve.now.types (g.K.KnownTypes.known_of c.args.known.now ++ c.args.live.now) (g.K.KnownTypes.known_of c.args.known.now ++ c.steps.live)
    (listing_from c.args.resolve.now.types (map id_index c.args.roots.items)) c.steps.steps.items c.steps.invariant.walk)

pub steps-smaller-in-Continue-branch-5 : goal.steps-smaller-in-Continue-branch-5
steps-smaller-in-Continue-branch-5 g c =
    rw (c.in_ok-enter_all-in-Enter.ensures, c.in_ok-push-in-Enter.ensures.items)
    (walk_length_enter c.args.resolve.now.types c.steps.steps.items c.pop.new.self.items c.in-Enter.id c.in_ok-ids-in-Enter.ids.items
    c.listings_unique.ensures.made
    (step_within c.args.resolve.now.types (g.K.KnownTypes.known_of c.args.known.now ++ c.args.live.now)
    (list_union (g.K.KnownTypes.known_of c.args.known.now ++ c.args.live.now) (listing_from c.args.resolve.now.types (map id_index c.args.roots.items)))
    (g.K.KnownTypes.known_of c.args.known.now ++ c.steps.live) c.steps.steps.items c.pop.new.self.items (Enter c.in-Enter.id) c.steps.invariant.walk (c.in-Some.ensures.items
    ∙ ap (λ z. c.pop.new.self.items ++ z ∷ []) c.in-Enter.is))
    (children_are c.args.resolve.now.types c.in-Enter.id.0 (type_view c.type_def.result.now)
    (map id_index c.in_ok-ids-in-Enter.ids.items) c.type_def.ensures c.in_ok-ids-in-Enter.ensures) (c.in-Some.ensures.items
    ∙ ap (λ z. c.pop.new.self.items ++ z ∷ []) c.in-Enter.is))

pub steps-preserved-in-Continue-branch-5 : goal.steps-preserved-in-Continue-branch-5
steps-preserved-in-Continue-branch-5 g c = record {
  walk = rw (c.in_ok-enter_all-in-Enter.ensures, c.in_ok-push-in-Enter.ensures.items)
      (walk_enter c.args.resolve.now.types _ _ _ c.steps.steps.items c.pop.new.self.items c.in-Enter.id c.in_ok-ids-in-Enter.ids.items c.listings_unique.ensures.made
      (children_within c.args.resolve.now (ids_of_types c.args.resolve.now c.well_formedness.ensures.in_range))
      (children_are c.args.resolve.now.types c.in-Enter.id.0 (type_view c.type_def.result.now)
      (map id_index c.in_ok-ids-in-Enter.ids.items) c.type_def.ensures c.in_ok-ids-in-Enter.ensures) c.steps.invariant.walk (c.in-Some.ensures.items
      ∙ ap (λ z. c.pop.new.self.items ++ z ∷ []) c.in-Enter.is));
  kept = c.steps.invariant.kept;
}

pub returns-in_err-enter_all-in-Enter-clause-begun : goal.returns-in_err-enter_all-in-Enter-clause-begun
returns-in_err-enter_all-in-Enter-clause-begun g c =
    stopped _ _ (walk_stop c.args.resolve.now.types (g.K.KnownTypes.known_of c.args.known.now ++ c.args.live.now) (g.K.KnownTypes.known_of c.args.known.now ++ c.steps.live)
    (listing_from c.args.resolve.now.types (map id_index c.args.roots.items)) c.steps.steps.items c.steps.invariant.walk)

pub steps-smaller : goal.steps-smaller
steps-smaller g c =
    walk_length_skip c.args.resolve.now.types c.steps.steps.items c.pop.new.self.items c.in-Enter.id c.listings_unique.ensures.made
    (step_within c.args.resolve.now.types (g.K.KnownTypes.known_of c.args.known.now ++ c.args.live.now)
    (list_union (g.K.KnownTypes.known_of c.args.known.now ++ c.args.live.now) (listing_from c.args.resolve.now.types (map id_index c.args.roots.items)))
    (g.K.KnownTypes.known_of c.args.known.now ++ c.steps.live) c.steps.steps.items c.pop.new.self.items (Enter c.in-Enter.id) c.steps.invariant.walk (c.in-Some.ensures.items
    ∙ ap (λ z. c.pop.new.self.items ++ z ∷ []) c.in-Enter.is)) (c.in-Some.ensures.items ∙ ap (λ z. c.pop.new.self.items ++ z ∷ []) c.in-Enter.is)

pub steps-preserved : goal.steps-preserved
steps-preserved g c = record {
  walk = walk_skip c.args.resolve.now.types _ _ _ c.steps.steps.items c.pop.new.self.items c.in-Enter.id c.steps.invariant.walk (c.in-Some.ensures.items
      ∙ ap (λ z. c.pop.new.self.items ++ z ∷ []) c.in-Enter.is)
      (c.is_there.ensures.0 c.if-not-is_there.false);
  kept = c.steps.invariant.kept;
}

pub returns-clause-added : goal.returns-clause-added
returns-clause-added g c = walk_end c.args.resolve.now.types (g.K.KnownTypes.known_of c.args.known.now ++ c.args.live.now) (g.K.KnownTypes.known_of c.args.known.now ++ c.steps.live)
    (listing_from c.args.resolve.now.types (map id_index c.args.roots.items)) c.steps.steps.items c.steps.invariant.walk
    (nil_from_length c.steps.steps.items (let none = c.in_default.ensures.cases.0 in search (rules, none)))
