use Rattle.std.proofs.Common.{◌≡◌, ◌∙◌, ap, map, subst}
use Rattle.std.proofs.lemmas.Result.{IfOk-weaker}
use Rattle.wc_graph.specs.Dominators.{AreGraphDominators}
use Rattle.wc_graph.specs.Tree.{ArePlaces}
use Rattle.wc_graph.specs.Private.Places.{mark_by}
use Rattle.wc_graph.proofs.DominatorLemmas.{way_graph}
use Rattle.wc_graph.proofs.dominators.dominators_on_way.Goals as goal

pub returns : goal.returns
returns g c =
    let names = g.G.Graph.names c.args.graph.now in
    let size = g.G.Graph.size c.args.graph.now in
    let roots = c.args.roots.now in
    let targets = c.args.targets.now in
    let way = c.args.way.now in
    let marks = c.in_ok-marks.marks.items in
    let places = c.in_ok-places.places.items in
    let placed : ArePlaces way size places = subst (λ n. ArePlaces way n places) c.len.ensures c.in_ok-places.ensures in
    IfOk-weaker c.marks_by.result (λ v. v.items ≡ map (mark_by c.deref-2.result.now) c.deref.result.now) (λ v. AreGraphDominators names size roots targets v.items)
    (λ v e.
    way_graph names roots targets way marks v.items size places c.requires.way c.in_ok-marks.ensures placed
    (e ∙ (ap (λ ms. map (mark_by ms) c.deref.result.now) c.deref-2.ensures.value ∙ ap (map (mark_by marks)) c.deref.ensures.value)))
    c.marks_by.ensures
