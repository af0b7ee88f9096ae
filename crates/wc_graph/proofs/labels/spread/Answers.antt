use Rattle.std.proofs.Common.{◌≡◌, ℕ, List, ◌<◌, ◌∙◌, sym, subst, length, vec_len, rules, arith}
use Rattle.std.specs.Prelude.{All, Contains}
use Rattle.std.proofs.lemmas.List.Elements.{Contains-push}
use Rattle.wc_graph.specs.Private.Labels.{AreNoted}
use Rattle.wc_graph.proofs.LabelLemmas.{spread_begun, spread_next, spread_over}
use Rattle.wc_graph.proofs.labels.spread.Goals as goal

pub loop-item-init : goal.loop-item-init
loop-item-init g c = record {
  at = spread_begun (g.G.Graph.names c.args.graph.now) c.args.labels.items c.in_ok-waiting.waiting.items
      (subst (λ (z : List ℕ). AreNoted z (length z) c.in_ok-waiting.waiting.items) c.deref.ensures.value c.in_ok-waiting.ensures);
  size = c.requires;
}

pub pass_on-requires-clause-there : goal.pass_on-requires-clause-there
pass_on-requires-clause-there g c =
    let item = c.in-Some.item in
    let rest = c.pop.new.self.items in
    let n : vec_len c.args.labels ≡ length c.args.labels.items = search rules in
    let r : vec_len c.args.labels ≡ g.G.Graph.size c.args.graph.now = c.requires in
    let t = c.loop-item.invariant.at.there item (subst (λ (z : List ℕ). Contains z item) (sym c.in-Some.ensures.items) (Contains-push rest item)) in
    omega (arith, t, n, r)

pub loop-item-preserved : goal.loop-item-preserved
loop-item-preserved g c =
    let names = g.G.Graph.names c.args.graph.now in
    let item = c.in-Some.item in
    let n : vec_len c.args.labels ≡ length c.args.labels.items = search rules in
    let r : vec_len c.args.labels ≡ g.G.Graph.size c.args.graph.now = c.requires in
    record {
      at = spread_next names c.args.labels.items c.loop-item.spread.words.items c.pass_on.new.self.words.items c.pop.new.self.items c.loop-item.spread.waiting.items
          c.pass_on.new.self.waiting.items item c.in-Some.ensures.items c.loop-item.invariant.at c.in_ok-pass_on.ensures.come
          (subst (λ (m : ℕ). All (λ y. y < m) (names item)) (sym (sym n ∙ r)) c.in_ok-pass_on.ensures.below);
      size = c.pass_on.ensures.size ∙ c.loop-item.invariant.size;
    }

pub returns : goal.returns
returns g c =
    let n : vec_len c.loop-item.spread.waiting ≡ length c.loop-item.spread.waiting.items = search rules in
    let empty : vec_len c.loop-item.spread.waiting ≡ 0 = c.in_default.ensures.cases.0 in
    let none : length c.loop-item.spread.waiting.items ≡ 0 = omega (arith, n, empty) in
    spread_over (g.G.Graph.names c.args.graph.now) c.args.labels.items c.loop-item.spread.words.items c.loop-item.spread.waiting.items none c.loop-item.invariant.at
