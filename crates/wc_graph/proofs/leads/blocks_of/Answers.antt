use Rattle.std.proofs.Common.{◌∙◌, ◌∷◌, [], ◌*◌, ◌+◌, List, ℕ, ap, subst, sym}
use Rattle.std.proofs.lemmas.List.{map-append}
use Rattle.wc_graph.specs.Positions.{items_of, sets_view}
use Rattle.wc_graph.specs.Private.Leads.{AreBlocksTo}
use Rattle.wc_graph.specs.Private.Marks.{AreGathered}
use Rattle.wc_graph.proofs.LeadLemmas.{block_is, blocks_next}
use Rattle.wc_graph.proofs.leads.blocks_of.Goals as goal

pub loop-block-preserved : goal.loop-block-preserved
loop-block-preserved g c =
    let names = g.G.Graph.names c.args.graph.now in
    let sources = c.args.sources.now in
    let owners = c.args.owners.now in
    let k = c.loop-block.block in
    let words = c.in_ok-words.words.items in
    let gathered = c.in_ok-gathered.gathered.items in
    let block = block_is names sources owners c.args.count (k * 64) _ c.in_ok-labels.labels.items words gathered c.in_ok-labels.ensures c.in_ok-words.ensures
    (subst (λ (z : List ℕ). AreGathered z owners c.args.count gathered) c.deref.ensures.value c.in_ok-gathered.ensures) in
    subst (AreBlocksTo names sources owners c.args.count (k + 1))
    (sym (ap sets_view c.in_ok-push.ensures.items ∙ map-append items_of c.loop-block.blocks.items (c.in_ok-gathered.gathered ∷ [])))
    (blocks_next names sources owners c.args.count k (sets_view c.loop-block.blocks.items) gathered c.loop-block.invariant block)
