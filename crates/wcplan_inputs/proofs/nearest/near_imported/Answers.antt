use Rattle.std.proofs.Common.{◌≡◌, ◌∙◌, Option, String, Global, string_bytes}
use Rattle.std.proofs.lemmas.Result.{IfOk-weaker}
use Rattle.std.specs.Option.{option_map}
use Rattle.semver.specs.Identifiers.{parts_text}
use Rattle.wc_encoder.specs.EncoderParts.{world_imports}
use Rattle.wc_resolve.specs.Views.{world_view}
use Rattle.wc_resolve.proofs.WellFormedLemmas.{import_keys_have_texts, import_keys_in}
use Rattle.wcplan_inputs.specs.Nearest.{first_near, key_texts}
use Rattle.wcplan_inputs.proofs.NearestLemmas.{imports_near, world_there}
use Rattle.wcplan_inputs.proofs.nearest.near_imported.Goals as goal

pub world-requires : goal.world-requires
world-requires c =
    world_there c.args.encoder.now c.metadata-metadata.result.now.resolve c.metadata-metadata.result.now.world.0 c.metadata-metadata.ensures.resolve
    c.metadata-metadata.ensures.world c.well_formedness.ensures.has_world

pub near_key-requires-clause-there : goal.near_key-requires-clause-there
near_key-requires-clause-there c =
    import_keys_in c.metadata-metadata.result.now.resolve c.well_formedness-2.ensures c.metadata-metadata.result.now.world.0 (world_view c.world.result.now)
    c.world.ensures

pub near_key-requires-clause-named : goal.near_key-requires-clause-named
near_key-requires-clause-named c =
    import_keys_have_texts c.metadata-metadata.result.now.resolve c.well_formedness-2.ensures c.metadata-metadata.result.now.world.0
    (world_view c.world.result.now) c.world.ensures parts_text

pub returns : goal.returns
returns c =
    let r = c.metadata-metadata.result.now.resolve in
    let e = c.args.encoder.now in
    let name = c.args.name.now in
    let same = imports_near e r c.metadata-metadata.result.now.world.0 c.metadata-metadata.ensures.resolve c.metadata-metadata.ensures.world
    (world_view c.world.result.now) c.world.ensures name in
    IfOk-weaker c.near_key.result (λ (o : Option (String Global)). option_map string_bytes o ≡ first_near name (key_texts r (world_view c.world.result.now).imports))
    (λ (o : Option (String Global)). option_map string_bytes o ≡ first_near name (key_texts e.resolve (world_imports e))) (λ o is. is ∙ same) c.near_key.ensures
