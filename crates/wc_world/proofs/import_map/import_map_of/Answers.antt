use Rattle.std.proofs.Common.{◌≡◌, ◌∙◌, List, ap, is_some, map}
use Rattle.std.proofs.lemmas.Result.{IfOk-weaker}
use Rattle.semver.specs.Identifiers.{parts_text}
use Rattle.wc_resolve.specs.Views.{WorldView, world_entry, world_view}
use Rattle.wc_resolve.specs.Kinds.{ResolveView}
use Rattle.wc_resolve.proofs.ViewedLemmas.{all_unviewed}
use Rattle.wc_resolve.proofs.WellFormedLemmas.{import_keys_have_texts}
use Rattle.wc_names.specs.Views.{ImportView}
use Rattle.wc_validate.specs.Validate.{module_record}
use Rattle.wc_world.specs.Lowering.{IsImportable, Lowerer, all_entries, lowered, lowerer_of}
use Rattle.wc_world.specs.Slots.{all_imports, imports_of}
use Rattle.wc_world.specs.WorldViews.{adapter_entry, import_map_view}
use Rattle.wc_world.proofs.ImportEntryLemmas.{all_importable, entries_distinct, lowered_is, names_distinct, world_there}
use Rattle.wc_world.proofs.LoweringKeyLemmas.{world_distinct}
use Rattle.wc_world.proofs.import_map.import_map_of.Goals as goal

pub world-requires : goal.world-requires
world-requires g c =
    world_there c.args.encoder.now c.metadata-metadata.result.now.resolve c.metadata-metadata.result.now.world.0 c.metadata-metadata.ensures.resolve c.metadata-metadata.ensures.world c.well_formedness.ensures.has_world

pub import_entries-requires : goal.import_entries-requires
import_entries-requires g c =
    all_unviewed world_entry (IsImportable c.metadata-metadata.result.now.resolve) c.world.result.now.imports.entries
    (all_importable c.metadata-metadata.result.now.resolve c.well_formedness-2.ensures c.metadata-metadata.result.now.world.0 (world_view c.world.result.now) c.world.ensures)

pub returns : goal.returns
returns g c =
    let r : ResolveView = c.metadata-metadata.result.now.resolve in
    let w : WorldView = world_view c.world.result.now in
    let imports : List ImportView = imports_of (all_imports (module_record c.args.main.now) (map adapter_entry c.args.adapters.now.entries)) in
    let l : Lowerer = lowerer_of r (g.O.ImportOptions.options_of c.args.options.now) c.is_some.result imports in
    let names = names_distinct c.args.encoder.now r c.metadata-metadata.result.now.world.0 c.metadata-metadata.ensures.resolve c.metadata-metadata.ensures.world w c.world.ensures c.well_formedness.ensures.distinct in
    IfOk-weaker c.import_entries.result (λ m. import_map_view m ≡ all_entries l w.imports)
    (λ m. import_map_view m ≡ lowered c.args.encoder.now (g.O.ImportOptions.options_of c.args.options.now) (module_record c.args.main.now) (map adapter_entry c.args.adapters.now.entries))
    (λ m is. is
    ∙ lowered_is c.args.encoder.now r c.metadata-metadata.result.now.world.0 c.metadata-metadata.ensures.resolve c.metadata-metadata.ensures.world w c.world.ensures (g.O.ImportOptions.options_of c.args.options.now) (module_record c.args.main.now)
    (map adapter_entry c.args.adapters.now.entries) c.is_some.result (c.is_some.ensures ∙ ap is_some c.imported_memory.ensures))
    (c.import_entries.ensures imports c.in_ok-imported.ensures (world_distinct l c.well_formedness-2.ensures c.metadata-metadata.result.now.world.0 w c.world.ensures names)
    (entries_distinct l w.imports w.imports (import_keys_have_texts r c.well_formedness-2.ensures c.metadata-metadata.result.now.world.0 w c.world.ensures parts_text) names))
