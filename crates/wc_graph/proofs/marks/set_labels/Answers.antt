use Rattle.std.proofs.Common.{◌≡◌, ◌<◌, ◌≤◌, ◌+◌, ◌-◌, List, ℕ, Some, length, refl, sym, ◌∙◌, ap, option_map, subst, inl, inr, arith}
use Rattle.std.specs.List.{slice_get}
use Rattle.std.proofs.lemmas.Bool.{cases_lt}
use Rattle.std.proofs.lemmas.List.{length-map}
use Rattle.std.proofs.lemmas.Option.{slice_get-get_or, slice_get-map}
use Rattle.wc_graph.specs.Positions.{items_of, sets_view}
use Rattle.wc_graph.specs.Private.Marks.{AreLabelsOf}
use Rattle.wc_graph.proofs.MarkLemmas.{sets_all, sets_next}
use Rattle.wc_graph.proofs.marks.set_labels.Goals as goal

pub loop-position-preserved : goal.loop-position-preserved
loop-position-preserved c =
    let sets = c.args.sets.now in
    let k = c.loop-position.position in
    let one = c.index-sets-position.result in
    let from : c.args.start ≤ k = omega arith in
    let e = c.end_of-end.ensures in
    let t = c.loop-position-test.true in
    let within : k < length sets = omega (arith, e, t) in
    let at : slice_get (sets_view sets) k ≡ Some one.items =
    slice_get-map items_of sets k ∙ ap (option_map items_of) (slice_get-get_or sets k one within ∙ ap Some (sym c.index-sets-position.is)) in
    sets_next c.args.sources.now (sets_view sets) c.args.start c.args.size k (k - c.args.start) one.items c.loop-position.labels.items c.mark_each.new.labels.items from refl at
    c.loop-position.invariant
    (subst (λ (z : List ℕ). AreLabelsOf c.args.sources.now z (k - c.args.start) c.loop-position.labels.items c.mark_each.new.labels.items) c.deref.ensures.value c.mark_each.ensures)

pub returns : goal.returns
returns c =
    let sets = c.args.sets.now in
    let e = c.end_of-end.ensures in
    let t = c.loop-position-test.false in
    let m = length-map sets items_of in
    let most : c.loop-position.position ≤ c.args.start + 63 = omega (arith, e) in
    sets_all c.args.sources.now (sets_view sets) c.args.start c.args.size c.loop-position.position c.loop-position.labels.items most
    (elim (cases_lt c.loop-position.position (length sets)) [ inl less ↦ inl (omega (arith, e, t, less)) | inr past ↦ inr (omega (arith, m, past)) ]) c.loop-position.invariant
