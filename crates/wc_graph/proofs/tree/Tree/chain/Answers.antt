use Rattle.std.proofs.Common.{◌≡◌, ◌≢◌, ◌∷◌, [], sym, ◌∙◌, ap, subst, ◌<◌, ◌≤◌, get_or, length, reverse, rules, arith}
use Rattle.std.proofs.lemmas.List.{reverse-append, get_or_default}
use Rattle.wc_graph.specs.ShortestChains.{IsFinderChain}
use Rattle.wc_graph.proofs.FinderChainLemmas.{walk_end, walk_step}
use Rattle.wc_graph.proofs.tree.Tree.chain.Goals as goal

pub loop-at-preserved : goal.loop-at-preserved
loop-at-preserved c =
    let order = c.args.self.now.order.items in
    let finder = c.args.self.now.finder.items in
    let lt : c.loop-at.at < length order = c.loop-at.invariant.within in
    let held : c.loop-at.at < length finder = let s = c.args.self.now.finders.sized in omega (arith, s, lt) in
    let by : get_or finder c.loop-at.at 0 ≡ c.index-at.result.now = get_or_default finder c.loop-at.at 0 c.index-at.result.now held ∙ sym c.index-at.ensures in
    let first : get_or finder c.loop-at.at 0 ≡ c.index-in-loop-at.result.now = get_or_default finder c.loop-at.at 0 c.index-in-loop-at.result.now held ∙ sym c.index-in-loop-at.ensures in
    let early : get_or finder c.loop-at.at 0 ≤ c.loop-at.at = c.args.self.now.finders.earlier c.loop-at.at lt in
    let there : c.index-at.result.now < length order = omega (arith, by, early, lt) in
    let test : c.index-in-loop-at.result.now ≢ c.loop-at.at = search rules in
    let read = c.index-in-loop-at-2.ensures in
    record {
      within = there;
      walked = walk_step order finder c.loop-at.at c.index-at.result.now c.args.position (reverse c.loop-at.chain.items) (reverse c.push-in-loop-at.new.self.items)
          lt c.args.self.now.finders.sized by (λ e. test (sym first ∙ (by ∙ e)))
          (λ d. ap reverse c.in_ok-push-2.ensures.items ∙ (reverse-append c.loop-at.chain.items (c.index-in-loop-at-2.result.now ∷ [])
          ∙ ap (λ z. z ∷ reverse c.loop-at.chain.items) (read ∙ get_or_default order c.index-at.result.now c.index-in-loop-at-2.result.now d there)))
          c.loop-at.invariant.walked;
    }

pub returns : goal.returns
returns c =
    let order = c.args.self.now.order.items in
    let finder = c.args.self.now.finder.items in
    let lt : c.loop-at.at < length order = c.loop-at.invariant.within in
    let held : c.loop-at.at < length finder = let s = c.args.self.now.finders.sized in omega (arith, s, lt) in
    let first : get_or finder c.loop-at.at 0 ≡ c.index-in-loop-at.result.now = get_or_default finder c.loop-at.at 0 c.index-in-loop-at.result.now held ∙ sym c.index-in-loop-at.ensures in
    let test : c.index-in-loop-at.result.now ≡ c.loop-at.at = search rules in
    subst (IsFinderChain order finder c.args.position) (sym c.reverse.ensures.items)
    (walk_end order finder c.loop-at.at c.args.position (reverse c.loop-at.chain.items) lt c.args.self.now.finders.sized (first ∙ test) c.loop-at.invariant.walked)
