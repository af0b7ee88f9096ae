use Rattle.std.proofs.Common.{◌∙◌, map, sym}
use Rattle.wc_resolve.specs.Views.{world_view}
use Rattle.wc_adapters.specs.Adapters.{adapter_view as input_view}
use Rattle.wc_adapters.specs.Entries.{entries_of}
use Rattle.wc_validate.specs.Imports.Map.{required_entry}
use Rattle.wc_validate.specs.Validate.{module_record}
use Rattle.wc_world.proofs.AdapterLemmas.{needed_by}
use Rattle.wc_world.proofs.UsedWalkLemmas.{exports_are, exports_there}
use Rattle.wc_world.proofs.adapters.is_input_needed.Goals as goal

pub is_needed-requires : goal.is_needed-requires
is_needed-requires c = exports_there c.metadata-metadata.result.now.resolve c.well_formedness-2.ensures.in_range c.metadata-metadata.result.now.world.0 (world_view c.world.result.now) c.world.ensures

pub returns : goal.returns
returns c =
    c.is_needed.ensures
    ∙ sym (needed_by c.args.input.now.encoder.now (module_record c.args.input.now.main.now) (c.args.input.now.name.now, input_view c.args.input.now.adapter.now) c.metadata-metadata.result.now.resolve (entries_of c.world.result.now.exports) (map required_entry c.args.input.now.required.now.entries) c.metadata-metadata.ensures.resolve
    (exports_are c.args.input.now.encoder.now c.metadata-metadata.result.now.resolve c.metadata-metadata.result.now.world.0 (world_view c.world.result.now) c.metadata-metadata.ensures.resolve c.metadata-metadata.ensures.world c.world.ensures) c.requires)
