use Rattle.std.proofs.Common.{◌≡◌, List, ℕ, length, min, ◌+◌, rules, subst, sym, arith}
use Rattle.std.proofs.lemmas.List.{length-map}
use Rattle.wc_graph.specs.Positions.{items_of, sets_view}
use Rattle.wc_graph.specs.Private.Alone.{AreAppended}
use Rattle.wc_graph.specs.Private.Marks.{AreOthers, AreSetLabels}
use Rattle.wc_graph.proofs.AloneLemmas.{alone_all, alone_next}
use Rattle.wc_graph.proofs.alone.reached_alone.Goals as goal

pub loop-alloc-preserved : goal.loop-alloc-preserved
loop-alloc-preserved g c =
    let names = g.G.Graph.names c.args.graph.now in
    let sources = c.args.sources.now in
    let sets = c.args.sets.now in
    let items = c.args.items.now in
    let labels = c.in_ok-labels.labels.items in
    let rest = c.in_ok-missing.missing.items in
    let words = c.in_ok-words.words.items in
    let old = c.loop-alloc.found.items in
    let new = c.push_alone.new.found.items in
    let n : c.len-in-loop-alloc-2.result ≡ length old = search rules in
    alone_next names sources items (sets_view sets) c.len-in-loop-alloc.result labels rest words old new
    (subst (λ (z : ℕ). AreSetLabels sources (sets_view sets) z c.len-in-loop-alloc.result labels) n c.in_ok-labels.ensures)
    (subst (λ (z : List ℕ). AreOthers sources z rest) c.deref.ensures.value c.in_ok-missing.ensures) c.in_ok-words.ensures
    (subst (λ (n : ℕ). AreAppended words items (min (length old + 63) n) old new) (sym (length-map sets items_of))
    (subst (λ (z : List ℕ). AreAppended z items (min (length old + 63) (length sets)) old new) c.deref-in-loop-alloc.ensures.value c.in_ok-push_alone.ensures)) c.loop-alloc.invariant

pub returns : goal.returns
returns g c =
    let n = length-map c.args.sets.now items_of in
    let t = c.loop-alloc-test.false in
    alone_all (g.G.Graph.names c.args.graph.now) c.args.sources.now c.args.items.now (sets_view c.args.sets.now) c.loop-alloc.found.items (omega (arith, n, t)) c.loop-alloc.invariant
