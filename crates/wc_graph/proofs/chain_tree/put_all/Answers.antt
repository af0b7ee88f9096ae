use Rattle.std.proofs.Common.{◌≡◌, ◌++◌, ◌∷◌, [], set, Some, None, sym, ◌∙◌, ap, subst, append_assoc}
use Rattle.std.specs.List.{slice_get}
use Rattle.std.proofs.lemmas.List.Elements.{All-push}
use Rattle.std.proofs.lemmas.Option.{slice_get_within}
use Rattle.wc_graph.specs.ChainMarks.{IsOnChain}
use Rattle.wc_graph.specs.Private.ChainTree.{IsGrowthOf}
use Rattle.wc_graph.proofs.ListLemmas.{get_set_other}
use Rattle.wc_graph.proofs.ListLemmas.{set_same}
use Rattle.wc_graph.proofs.ChainTreeLemmas.{grown_put, last_from, last_on, last_placed}
use Rattle.wc_graph.proofs.chain_tree.put_all.Goals as goal

pub put-requires : goal.put-requires
put-requires c =
    slice_get_within c.loop-position.growth.places.items c.in-Some.position None
    (last_from c.args.finder.now c.loop-position.invariant.left c.pop.new.self.items c.in-Some.position c.in-Some.ensures.items).0

pub loop-position-preserved : goal.loop-position-preserved
loop-position-preserved c =
    let finder = c.args.finder.now in
    let old = c.loop-position.growth in
    let new = c.put.new.growth in
    let m = c.in-Some.position in
    let after = c.loop-position.after in
    let inv = c.loop-position.invariant in
    let (none, is) = last_from finder inv.left c.pop.new.self.items m c.in-Some.ensures.items in
    let put = c.in_ok-place.ensures in
    let places : new.places.items ≡ set old.places.items m (Some c.in_ok-place.place) = put.places in
    let (more, added, used) = inv.order in
    record {
      growth =
          subst (λ z. IsGrowthOf finder z new.from.items new.places.items) (sym put.order)
          (subst (λ z. IsGrowthOf finder (old.order.items ++ m ∷ []) z new.places.items) (sym put.from)
          (subst (λ z. IsGrowthOf finder (old.order.items ++ m ∷ []) (old.from.items ++ after ∷ []) z)
          (sym (places ∙ ap (λ n. set old.places.items m (Some n)) put.at))
          (grown_put finder old.order.items old.from.items old.places.items inv.growth m after none is)));
      order = (
        more ++ m ∷ [],
        put.order ∙ (ap (λ z. z ++ m ∷ []) added ∙ append_assoc c.args.growth.now.order.items more (m ∷ [])),
        All-push (IsOnChain finder (c.args.target ∷ [])) more m used
            (last_on finder inv.left c.pop.new.self.items m c.in-Some.ensures.items),
      );
      left =
          last_placed finder c.requires.earlier new.places.items c.in_ok-place.place inv.left c.pop.new.self.items m c.in-Some.ensures.items
          (subst (λ z. slice_get z m ≡ Some (Some c.in_ok-place.place)) (sym places)
          (set_same old.places.items m (Some c.in_ok-place.place) (slice_get_within old.places.items m None none)))
          (λ x other. subst (λ z. slice_get z x ≡ slice_get old.places.items x) (sym places)
          (get_set_other old.places.items m x (Some c.in_ok-place.place) other));
    }
