use Rattle.std.proofs.Common.{◌≡◌, ◌∙◌, false, map, subst, sym, true}
use Rattle.wc_resolve.specs.Views.{world_view}
use Rattle.wc_selection.specs.WorldParts.{HasAllParts}
use Rattle.wc_selection.proofs.world_parts.index_of_whole.Goals as goal

pub returns-else-are_others_parts-clause-none : goal.returns-else-are_others_parts-clause-none
returns-else-are_others_parts-clause-none c index all =
    let same = c.likely_whole-index.ensures.found index all in
    let yes = c.are_others_parts.ensures.1 (subst (HasAllParts (map world_view c.args.worlds.now)) (sym same) all) in
    let both : false ≡ true = sym c.if-are_others_parts.false ∙ yes in
    let bad : ⊥ = cc both in
    bad
