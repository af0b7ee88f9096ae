use Rattle.semver.specs.Identifiers.{parts_text}
use Rattle.wc_resolve.specs.Views.{world_view}
use Rattle.wc_resolve.proofs.WellFormedLemmas.{import_items_in, import_keys_have_texts, import_keys_in}
use Rattle.wcplan_inputs.proofs.NearestLemmas.{world_there}
use Rattle.wcplan_inputs.proofs.nearest.near_function.Goals as goal

pub world-requires : goal.world-requires
world-requires c =
    world_there c.args.encoder.now c.metadata-metadata.result.now.resolve c.metadata-metadata.result.now.world.0 c.metadata-metadata.ensures.resolve
    c.metadata-metadata.ensures.world c.well_formedness.ensures.has_world

pub interface_for-requires-clause-there : goal.interface_for-requires-clause-there
interface_for-requires-clause-there c =
    import_keys_in c.metadata-metadata.result.now.resolve c.well_formedness-2.ensures c.metadata-metadata.result.now.world.0 (world_view c.world.result.now)
    c.world.ensures

pub interface_for-requires-clause-named : goal.interface_for-requires-clause-named
interface_for-requires-clause-named c =
    import_keys_have_texts c.metadata-metadata.result.now.resolve c.well_formedness-2.ensures c.metadata-metadata.result.now.world.0
    (world_view c.world.result.now) c.world.ensures parts_text

pub interface_for-requires-clause-items : goal.interface_for-requires-clause-items
interface_for-requires-clause-items c =
    import_items_in c.metadata-metadata.result.now.resolve c.well_formedness-2.ensures c.metadata-metadata.result.now.world.0 (world_view c.world.result.now)
    c.world.ensures
