use Rattle.std.proofs.Common.{◌≡◌, ◌<◌, ◌∙◌, ◌∷◌, [], ◌+◌, List, ℕ, length, ap, subst, sym, arith}
use Rattle.std.specs.Prelude.{filter}
use Rattle.std.specs.List.{range_with_len}
use Rattle.std.specs.declared.alloc.Global.{Global}
use Rattle.std.specs.declared.vec.Vec.{Vec}
use Rattle.std.proofs.lemmas.List.{map-append}
use Rattle.wc_graph.specs.Positions.{items_of, sets_view}
use Rattle.wc_graph.specs.Private.Leads.{is_led}
use Rattle.wc_graph.proofs.LeadLemmas.{AreLeadsTo, leads_next}
use Rattle.wc_graph.proofs.leads.leading.Goals as goal

pub loop-owner-preserved : goal.loop-owner-preserved
loop-owner-preserved g c =
    let names = g.G.Graph.names c.args.graph.now in
    let sources = c.args.sources.now in
    let owners = c.args.owners.now in
    let k = c.loop-owner.owner in
    let below : k < c.args.count = omega arith in
    subst (AreLeadsTo names sources owners (k + 1))
    (sym (ap sets_view c.in_ok-push.ensures.items ∙ map-append items_of c.loop-owner.leads.items (c.in_ok-positions.positions ∷ [])))
    (leads_next names sources owners c.args.count k (sets_view c.in_ok-blocks.blocks.items) (sets_view c.loop-owner.leads.items) c.in_ok-positions.positions.items
    c.in_ok-blocks.ensures below
    (subst (λ (z : List (Vec ℕ Global)). c.in_ok-positions.positions.items ≡ filter (is_led (sets_view z) k) (range_with_len 0 (length sources))) c.deref.ensures.value
    c.in_ok-positions.ensures) c.loop-owner.invariant)
