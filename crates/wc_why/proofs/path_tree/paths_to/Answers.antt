use Rattle.std.proofs.Common.{◌≡◌, ◌<◌, true, ap, length, map, sym, subst, ◌∙◌}
use Rattle.std.specs.Prelude.{All}
use Rattle.wc_graph.specs.ChainTree.{IsChainTree, IsInside}
use Rattle.wc_why.specs.Component.{target_item}
use Rattle.wc_why.specs.Graph.{has_item, names_in}
use Rattle.wc_why.specs.Part.{part_view}
use Rattle.wc_why.specs.Paths.{ArePaths}
use Rattle.wc_why.specs.Private.PathTree.{item_in, position_of}
use Rattle.wc_why.proofs.PathLemmas.{are_paths, items_there, order_inside, targets_inside}
use Rattle.wc_why.proofs.path_tree.paths_to.Goals as goal

pub tree_to-requires-clause-there : goal.tree_to-requires-clause-there
tree_to-requires-clause-there c =
    let g = c.args.graph.now in
    let f = c.args.found in
    let are =
    c.deref-3.ensures.value ∙ (c.in_ok-positions.ensures ∙ ap (λ l. map (position_of g.numbers.now l) c.args.targets.now) c.deref.ensures.value) in
    let base =
    targets_inside (map part_view g.parts.now) g.numbers.now c.requires.component.numbered c.requires.found.0 f.order.items f.finder.items f.places.items c.requires.found.1
    c.args.targets.now in
    subst (λ z. All (IsInside z) c.deref-3.result.now) (sym c.deref-2.ensures.value) (subst (All (IsInside f.finder.items)) (sym are) base)

pub items_of-requires-clause-there : goal.items_of-requires-clause-there
items_of-requires-clause-there c =
    let g = c.args.graph.now in
    let f = c.args.found in
    let are =
    c.deref-3.ensures.value ∙ (c.in_ok-positions.ensures ∙ ap (λ l. map (position_of g.numbers.now l) c.args.targets.now) c.deref.ensures.value) in
    let is =
    subst (λ z. IsChainTree f.finder.items z c.in_ok-tree.tree) are
    (subst (λ z. IsChainTree z c.deref-3.result.now c.in_ok-tree.tree) c.deref-2.ensures.value c.in_ok-tree.ensures) in
    let base =
    order_inside (map part_view g.parts.now) g.numbers.now c.requires.component.numbered c.requires.found.0 f.order.items f.finder.items f.places.items c.requires.found.1
    c.args.targets.now c.in_ok-tree.tree is in
    subst (λ z. All (λ k. k < length z) c.deref-5.result.now) (sym c.deref-4.ensures.value)
    (subst (All (λ k. k < length f.order.items)) (sym c.deref-5.ensures.value) base)

pub returns-clause-paths : goal.returns-clause-paths
returns-clause-paths c = λ lists s.
    let g = c.args.graph.now in
    let f = c.args.found in
    let t = c.in_ok-tree.tree in
    let are =
    c.deref-3.ensures.value ∙ (c.in_ok-positions.ensures ∙ ap (λ l. map (position_of g.numbers.now l) c.args.targets.now) c.deref.ensures.value) in
    let is = subst (λ z. IsChainTree f.finder.items z t) are (subst (λ z. IsChainTree z c.deref-3.result.now t) c.deref-2.ensures.value c.in_ok-tree.ensures) in
    let items =
    c.in_ok-items.ensures ∙ (ap (λ z. map (item_in g.numbers.now z) c.deref-5.result.now) c.deref-4.ensures.value
    ∙ ap (map (item_in g.numbers.now f.order.items)) c.deref-5.ensures.value) in
    subst (λ z. ArePaths (names_in (map part_view g.parts.now)) lists (map target_item c.args.targets.now) z t.from.items t.ends.items) (sym items)
    (are_paths (map part_view g.parts.now) g.numbers.now c.requires.component.numbered lists f.order.items f.finder.items f.places.items s c.args.targets.now t is)

pub returns-clause-there : goal.returns-clause-there
returns-clause-there c =
    let g = c.args.graph.now in
    let f = c.args.found in
    let t = c.in_ok-tree.tree in
    let are =
    c.deref-3.ensures.value ∙ (c.in_ok-positions.ensures ∙ ap (λ l. map (position_of g.numbers.now l) c.args.targets.now) c.deref.ensures.value) in
    let is = subst (λ z. IsChainTree f.finder.items z t) are (subst (λ z. IsChainTree z c.deref-3.result.now t) c.deref-2.ensures.value c.in_ok-tree.ensures) in
    let items =
    c.in_ok-items.ensures ∙ (ap (λ z. map (item_in g.numbers.now z) c.deref-5.result.now) c.deref-4.ensures.value
    ∙ ap (map (item_in g.numbers.now f.order.items)) c.deref-5.ensures.value) in
    subst (All (λ y. has_item (map part_view g.parts.now) y ≡ true)) (sym items)
    (items_there (map part_view g.parts.now) g.numbers.now c.requires.component.numbered c.requires.found.0 f.order.items f.finder.items f.places.items c.requires.found.1
    c.args.targets.now t is)
