use Rattle.std.proofs.Common.{map, refl}
use Rattle.wc_validate.specs.Validate.{main_input, module_record}
use Rattle.wc_world.specs.WorldViews.{adapter_entry}
use Rattle.wc_world.proofs.WorldLemmas.{adapters_in}
use Rattle.wc_world.proofs.world.world_maps.Goals as goal

pub live_type_imports-requires-clause-main : goal.live_type_imports-requires-clause-main
live_type_imports-requires-clause-main g c =
    λ w at. c.records_in_range.ensures (main_input c.args.encoder.now c.args.encoder.now.module_import_map) c.args.encoder.now.module_bytes (module_record c.args.info.now) w refl c.requires.recorded at

pub live_type_imports-requires-clause-adapters : goal.live_type_imports-requires-clause-adapters
live_type_imports-requires-clause-adapters g c =
    adapters_in c.args.encoder.now (module_record c.args.info.now) c.records_in_range.ensures (map adapter_entry c.args.adapters.now.entries) c.requires.is_adapter

pub live_type_imports-requires-clause-used : goal.live_type_imports-requires-clause-used
live_type_imports-requires-clause-used g c = c.in_ok-exports_used.ensures
