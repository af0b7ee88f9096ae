use Rattle.std.proofs.Common.{◌≡◌, ◌<◌, ◌∙◌, ℕ, List, length, get_or, map, ap, subst, sym, arith}
use Rattle.std.specs.List.{filter_map}
use Rattle.std.proofs.lemmas.List.{length-map}
use Rattle.std.proofs.lemmas.List.Elements.{All-contains}
use Rattle.std.proofs.lemmas.Result.{IfOk-weaker}
use Rattle.wc_graph.specs.ChainMarks.{AreOnChains}
use Rattle.wc_graph.specs.OnChains.{AreMarkedTo}
use Rattle.wc_graph.specs.Private.Places.{mark_by, place_at}
use Rattle.wc_graph.proofs.OnChainLemmas.{all_marked, positions_inside}
use Rattle.wc_graph.proofs.chains.Chains.on_chains.Goals as goal

pub on_chains-requires-clause-there : goal.on_chains-requires-clause-there
on_chains-requires-clause-there c =
    let self = c.args.self.now in
    let targets = filter_map (place_at self.places.items) c.args.items.now in
    let are : c.deref-3.result.now ≡ targets =
    c.deref-3.ensures.value ∙ (c.in_ok-targets.ensures ∙ ap (λ ps. filter_map (place_at ps) c.args.items.now) c.deref.ensures.value) in
    subst (λ (z : List ℕ). (k d : ℕ) → k < length z → get_or z k d < length c.deref-2.result.now) (sym are)
    (λ k d lt.
    let below : get_or targets k d < length self.tree.order.items = positions_inside self.places.items (length self.tree.order.items) self.within c.args.items.now k d lt in
    let sized = self.tree.finders.sized in
    let same = ap length c.deref-2.ensures.value in
    omega (arith, below, sized, same))

pub returns : goal.returns
returns c =
    let self = c.args.self.now in
    let order = self.tree.order.items in
    let finder = self.tree.finder.items in
    let places = self.places.items in
    let items = c.args.items.now in
    let marks = c.in_ok-marks.marks.items in
    let targets : c.deref-3.result.now ≡ filter_map (place_at places) items =
    c.deref-3.ensures.value ∙ (c.in_ok-targets.ensures ∙ ap (λ ps. filter_map (place_at ps) items) c.deref.ensures.value) in
    let on : AreOnChains finder (filter_map (place_at places) items) marks =
    subst (λ ts. AreOnChains finder ts marks) targets (subst (λ fs. AreOnChains fs c.deref-3.result.now marks) c.deref-2.ensures.value c.in_ok-marks.ensures) in
    IfOk-weaker c.marks_by.result (λ v. v.items ≡ map (mark_by c.deref-5.result.now) c.deref-4.result.now) (λ v. AreMarkedTo self items v.items)
    (λ v e.
    let are : v.items ≡ map (mark_by marks) places =
    e ∙ (ap (λ ms. map (mark_by ms) c.deref-4.result.now) c.deref-5.ensures.value ∙ ap (map (mark_by marks)) c.deref-4.ensures.value) in
    record {
      sized = ap length are ∙ length-map places (mark_by marks);
      marked = λ names roots size a x lt.
          all_marked names roots order finder a.tree.reached a.tree.once a.tree.chains self.tree.finders places size a.places items marks on v.items are
          (λ y asked.
          let below = All-contains (λ z. z < length places) items y c.requires asked in
          let each = a.places.each in
          omega (arith, below, each))
          x lt;
    })
    c.marks_by.ensures
