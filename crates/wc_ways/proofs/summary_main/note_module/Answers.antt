use Rattle.std.proofs.Common.{◌∙◌, List, ap, length, option_map}
use Rattle.std.proofs.lemmas.Result.{on_ok_weaker}
use Rattle.wc_import_paths.specs.MainModules.{main_view}
use Rattle.wc_read.specs.Imports.{import_values}
use Rattle.wc_read.specs.Modules.{module_value}
use Rattle.wc_read.specs.declared.types.Import.{Import}
use Rattle.wc_summary.specs.Entries.{entries_view}
use Rattle.wc_segments.specs.Segments.{segments_value}
use Rattle.wc_summary.specs.Leads.{tags_view}
use Rattle.wc_ways.specs.Tags.{tags_in}
use Rattle.wc_world.specs.WorldViews.{world_view}
use Rattle.wc_ways.proofs.MainNoteLemmas.{main_noted, tags_sized}
use Rattle.wc_ways.proofs.summary_main.note_module.Goals as goal

pub note_main_module-requires : goal.note_main_module-requires
note_main_module-requires c =
    ap length c.deref-2.ensures.value
    ∙ (tags_sized (world_view c.args.world.now) (world_view c.args.world.now).info.imports (import_values c.deref.result.now) c.in_ok-tags.tags.items
    (c.in_ok-tags.ensures (world_view c.args.world.now) c.requires)
    ∙ ap (λ (l : List Import). length (import_values l)) c.deref.ensures.value)

pub returns : goal.returns
returns c =
    let w = world_view c.args.world.now in
    let main = main_view c.args.main.now in
    on_ok_weaker c.note_main_module.result
    (main_noted w main (module_value c.code-code.result.now) (option_map (λ s. segments_value s.now) c.segments.result) (tags_view c.deref-2.result.now)
    (entries_view c.args.entries.now.entries) (entries_view c.note_main_module.new.entries.entries) c.code-code.ensures c.segments.ensures
    (ap tags_view c.deref-2.ensures.value
    ∙ (c.in_ok-tags.ensures w c.requires ∙ ap (λ (l : List Import). tags_in w w.info.imports (import_values l)) c.deref.ensures.value)))
    c.note_main_module.ensures
