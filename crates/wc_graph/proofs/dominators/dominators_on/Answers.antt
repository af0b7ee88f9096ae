use Rattle.std.proofs.Common.{◌<◌, length, sym, subst, arith}
use Rattle.std.proofs.lemmas.List.{get_or-take, length-take-le}
use Rattle.wc_graph.specs.Tree.{ArePlaces}
use Rattle.wc_graph.specs.Private.Ways.{IsCut}
use Rattle.wc_graph.proofs.ChainWayLemmas.{cut_way}
use Rattle.wc_graph.proofs.dominators.dominators_on.Goals as goal

pub slice_bounds-dominators_on_way-end : goal.slice_bounds-dominators_on_way-end
slice_bounds-dominators_on_way-end g c =
    let size = g.G.Graph.size c.args.graph.now in
    let placed : ArePlaces c.args.targets.now size c.deref.result.now =
    subst (ArePlaces c.args.targets.now size) (sym c.deref.ensures.value) (subst (λ n. ArePlaces c.args.targets.now n c.in_ok-places.places.items) c.len.ensures c.in_ok-places.ensures) in
    let cut : IsCut c.args.targets.now c.args.chain.now c.up_to_first-count.result = c.up_to_first-count.ensures c.args.targets.now size placed in
    sym (length-take-le c.up_to_first-count.result c.args.chain.now cut.within)

pub dominators_on_way-requires-clause-there : goal.dominators_on_way-requires-clause-there
dominators_on_way-requires-clause-there g c = λ k d lt.
    let size = g.G.Graph.size c.args.graph.now in
    let count = c.up_to_first-count.result in
    let placed : ArePlaces c.args.targets.now size c.deref.result.now =
    subst (ArePlaces c.args.targets.now size) (sym c.deref.ensures.value) (subst (λ n. ArePlaces c.args.targets.now n c.in_ok-places.places.items) c.len.ensures c.in_ok-places.ensures) in
    let cut : IsCut c.args.targets.now c.args.chain.now count = c.up_to_first-count.ensures c.args.targets.now size placed in
    let l = length-take-le count c.args.chain.now cut.within in
    let w = cut.within in
    subst (λ z. z < size) (sym (get_or-take count c.args.chain.now k d (omega (arith, lt, l)))) (c.requires.there k d (omega (arith, lt, l, w)))

pub dominators_on_way-requires-clause-way : goal.dominators_on_way-requires-clause-way
dominators_on_way-requires-clause-way g c =
    let names = g.G.Graph.names c.args.graph.now in
    let size = g.G.Graph.size c.args.graph.now in
    let placed : ArePlaces c.args.targets.now size c.deref.result.now =
    subst (ArePlaces c.args.targets.now size) (sym c.deref.ensures.value) (subst (λ n. ArePlaces c.args.targets.now n c.in_ok-places.places.items) c.len.ensures c.in_ok-places.ensures) in
    cut_way names c.args.roots.now c.args.targets.now c.args.chain.now c.requires.leads c.up_to_first-count.result
    (c.up_to_first-count.ensures c.args.targets.now size placed)
