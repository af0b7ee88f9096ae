use Rattle.std.proofs.Common.{subst}
use Rattle.wc_world.specs.WorldViews.{world_view}
use Rattle.wc_ways.specs.Private.Needs.{AreNeeded, noted_in}
use Rattle.wc_ways.proofs.RootLemmas.{all_found, needs_by}
use Rattle.wc_ways.proofs.type_roots.needed_types.Goals as goal

pub returns : goal.returns
returns c =
    let w = world_view c.args.world.now in
    let new = noted_in c.note_exports.new.found in
    subst (λ z. AreNeeded z new)
    (λ i. needs_by (c.metadata-metadata.ensures.resolve i) (c.imports_of.ensures i) (c.exports_of-exports.ensures i) w)
    (all_found c.metadata-metadata.result.now.resolve c.with_hasher.result.entries (noted_in c.note_own_types.new.found) (noted_in c.note_modules.new.found) new _ _ _
    c.with_hasher.ensures.empty c.in_ok-note_own_types.ensures c.in_ok-note_modules.ensures c.in_ok-note_exports.ensures)
