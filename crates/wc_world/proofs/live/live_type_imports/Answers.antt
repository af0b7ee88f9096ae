use Rattle.std.proofs.Common.{◌≡◌, IfOk, map, subst}
use Rattle.wc_resolve.specs.Views.{world_view}
use Rattle.wc_encoder.specs.EncoderParts.{world_exports}
use Rattle.wc_validate.specs.Validate.{module_record}
use Rattle.wc_world.specs.Used.{used_view}
use Rattle.wc_world.specs.WorldViews.{adapter_entry, live_view}
use Rattle.wc_world.proofs.LiveLemmas.{live_are, world_in}
use Rattle.wc_world.proofs.MarkLemmas.{use_further}
use Rattle.wc_world.proofs.live.live_type_imports.Goals as goal

pub live_types-requires-clause-roots : goal.live_types-requires-clause-roots
live_types-requires-clause-roots c =
    world_in c.args.encoder.now c.metadata-metadata.result.now.resolve c.metadata-metadata.result.now.world.0 (world_view c.world-world.result.now) c.metadata-metadata.ensures.resolve c.metadata-metadata.ensures.world c.world-world.ensures
    (module_record c.args.main.now) (map adapter_entry c.args.adapters.now.entries) c.well_formedness-2.ensures.in_range c.requires.main c.requires.adapters

pub live_types-requires-clause-used : goal.live_types-requires-clause-used
live_types-requires-clause-used c = use_further c.args.encoder.now.resolve (world_exports c.args.encoder.now) (used_view c.args.used.now) c.requires.used

pub returns : goal.returns
returns c =
    subst (λ z. IfOk c.by_owner.result (λ groups. live_view groups ≡ z))
    (live_are c.args.encoder.now c.metadata-metadata.result.now.resolve c.metadata-metadata.result.now.world.0 (world_view c.world-world.result.now) c.metadata-metadata.ensures.resolve c.metadata-metadata.ensures.world c.world-world.ensures
    (used_view c.args.used.now) (module_record c.args.main.now) (map adapter_entry c.args.adapters.now.entries) c.in_ok-live.live c.in_ok-live.ensures.live)
    c.by_owner.ensures

pub by_owner-requires : goal.by_owner-requires
by_owner-requires c = c.in_ok-live.ensures.listed
