use Rattle.std.proofs.Common.{◌≡◌, ◌<◌, ◌∙◌, ℕ, List, ap, false, replicate, subst, sym}
use Rattle.std.specs.Prelude.{All}
use Rattle.std.proofs.lemmas.Result.{IfOk-weaker}
use Rattle.wc_graph.specs.Dominators.{AreGraphDominators}
use Rattle.wc_graph.specs.Private.Dominators.{IsTreeAnswer}
use Rattle.wc_graph.specs.Private.Ways.{IsChainTo}
use Rattle.wc_graph.proofs.DominatorLemmas.{none_graph}
use Rattle.wc_graph.proofs.dominators.dominators_by.Goals as goal

pub chain_to_first-requires-clause-there : goal.chain_to_first-requires-clause-there
chain_to_first-requires-clause-there g c = subst (λ (n : ℕ). All (λ x. x < n) c.args.tree.now.order.items) (sym c.len-size.ensures) c.requires.there

pub chain_to_first-requires-clause-targets : goal.chain_to_first-requires-clause-targets
chain_to_first-requires-clause-targets g c = subst (λ (n : ℕ). All (λ x. x < n) c.args.targets.now) (sym c.len-size.ensures) c.requires.targets

pub dominators_on-requires-clause-there : goal.dominators_on-requires-clause-there
dominators_on-requires-clause-there g c =
    let answer = subst (IsTreeAnswer c.args.tree.now c.len-size.result c.args.targets.now) c.in-Some.is c.in_ok-chain.ensures in
    let found = answer (g.G.Graph.names c.args.graph.now) c.args.roots.now c.requires.tree in
    subst (λ (z : List ℕ). All (λ x. x < g.G.Graph.size c.args.graph.now) z) (sym c.deref.ensures.value)
    (subst (λ (n : ℕ). All (λ x. x < n) c.in-Some.chain.items) c.len-size.ensures found.1)

pub dominators_on-requires-clause-leads : goal.dominators_on-requires-clause-leads
dominators_on-requires-clause-leads g c =
    let names = g.G.Graph.names c.args.graph.now in
    let answer = subst (IsTreeAnswer c.args.tree.now c.len-size.result c.args.targets.now) c.in-Some.is c.in_ok-chain.ensures in
    let found = answer names c.args.roots.now c.requires.tree in
    subst (IsChainTo names c.args.roots.now c.args.targets.now) (sym c.deref.ensures.value) found.0

pub returns-in-None : goal.returns-in-None
returns-in-None g c =
    let names = g.G.Graph.names c.args.graph.now in
    let size = g.G.Graph.size c.args.graph.now in
    let answer = subst (IsTreeAnswer c.args.tree.now c.len-size.result c.args.targets.now) c.in-None.is c.in_ok-chain.ensures in
    let missed = answer names c.args.roots.now c.requires.tree in
    IfOk-weaker c.no_dominators.result (λ v. v.items ≡ replicate c.len-size.result false)
    (λ v. AreGraphDominators names size c.args.roots.now c.args.targets.now v.items)
    (λ v e. none_graph names c.args.roots.now c.args.targets.now v.items size missed (e ∙ ap (λ (n : ℕ). replicate n false) c.len-size.ensures)) c.no_dominators.ensures
