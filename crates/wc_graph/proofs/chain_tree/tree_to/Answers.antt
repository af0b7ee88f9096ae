use Rattle.std.proofs.Common.{◌≡◌, ◌<◌, length, get_or, replicate, None, rules, sym, subst, arith, ◌+◌}
use Rattle.std.proofs.lemmas.Option.{slice_get-get_or}
use Rattle.wc_graph.proofs.ChainTreeLemmas.{IsTreeTo, tree_done, tree_more, tree_none}
use Rattle.wc_graph.proofs.chain_tree.tree_to.Goals as goal

pub loop-target-init : goal.loop-target-init
loop-target-init c =
    tree_none c.args.finder.now c.args.targets.now c.new.result.items c.new-2.result.items c.in_ok-places.places.items c.new-ends.result.items
    c.new.ensures.items c.new-2.ensures.items c.new-ends.ensures.items (let none : c.in_ok-places.places.items ≡ replicate (length c.args.finder.now) None = search rules in none)

pub loop-target-preserved : goal.loop-target-preserved
loop-target-preserved c =
    let finder = c.args.finder.now in
    let targets = c.args.targets.now in
    let index = c.loop-target.target-index in
    let old = c.loop-target.growth in
    let new = c.add_if.new.growth in
    let added = c.in_ok-end.ensures in
    let lt : index < length targets = c.loop-target-test.true in
    subst (λ z. IsTreeTo finder targets new.order.items new.from.items new.places.items z (index + 1)) (sym c.in_ok-push.ensures.items)
    (tree_more finder targets old.order.items old.from.items old.places.items c.loop-target.ends.items index c.loop-target.invariant (get_or targets index None)
    c.in_ok-end.end added.more new.order.items new.from.items new.places.items (slice_get-get_or targets index None lt) added.growth added.order added.used added.is)

pub returns : goal.returns
returns c =
    let targets = c.args.targets.now in
    let over = c.loop-target-test.false in
    let end : c.loop-target.target-index ≡ length targets = omega (arith, over, c.loop-target.auto.target-index-end) in
    tree_done c.args.finder.now targets _ c.loop-target.growth.places.items c.loop-target.target-index over c.loop-target.invariant end
