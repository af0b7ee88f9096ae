use Rattle.std.proofs.Common.{sym, subst, IfOk}
use Rattle.wc_resolve.specs.Views.{world_view}
use Rattle.wc_encoder.specs.Dependencies.{AreDependenciesBefore}
use Rattle.wc_encoder.specs.EncoderParts.{world_exports}
use Rattle.wc_adapters.specs.Entries.{entries_of}
use Rattle.wc_world.specs.Used.{AreUsed, used_view}
use Rattle.wc_world.proofs.UsedWalkLemmas.{exports_are, exports_keyed, exports_there}
use Rattle.wc_world.proofs.used.exports_used.Goals as goal

pub sets_of_exports-requires-clause-there : goal.sets_of_exports-requires-clause-there
sets_of_exports-requires-clause-there c = exports_there c.metadata-metadata.result.now.resolve c.well_formedness-2.ensures.in_range c.metadata-metadata.result.now.world.0 (world_view c.world.result.now) c.world.ensures

pub sets_of_exports-requires-clause-before : goal.sets_of_exports-requires-clause-before
sets_of_exports-requires-clause-before c =
    subst (λ r. AreDependenciesBefore r (entries_of c.world.result.now.exports)) (sym c.metadata-metadata.ensures.resolve)
    (subst (λ z. AreDependenciesBefore c.args.encoder.now.resolve z)
    (exports_are c.args.encoder.now c.metadata-metadata.result.now.resolve c.metadata-metadata.result.now.world.0 (world_view c.world.result.now) c.metadata-metadata.ensures.resolve c.metadata-metadata.ensures.world c.world.ensures)
    c.well_formedness.ensures.dependencies_before)

pub sets_of_exports-requires-clause-keyed : goal.sets_of_exports-requires-clause-keyed
sets_of_exports-requires-clause-keyed c = exports_keyed c.metadata-metadata.result.now.resolve c.well_formedness-2.ensures.keyed c.metadata-metadata.result.now.world.0 (world_view c.world.result.now) c.world.ensures

pub returns : goal.returns
returns c =
    subst (λ r. IfOk c.sets_of_exports.result (λ used. AreUsed r (world_exports c.args.encoder.now) (used_view used))) c.metadata-metadata.ensures.resolve
    (subst (λ z. IfOk c.sets_of_exports.result (λ used. AreUsed c.metadata-metadata.result.now.resolve z (used_view used)))
    (sym (exports_are c.args.encoder.now c.metadata-metadata.result.now.resolve c.metadata-metadata.result.now.world.0 (world_view c.world.result.now) c.metadata-metadata.ensures.resolve c.metadata-metadata.ensures.world c.world.ensures))
    c.sets_of_exports.ensures)
