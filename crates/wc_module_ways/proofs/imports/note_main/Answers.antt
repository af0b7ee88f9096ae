use Rattle.std.proofs.Common.{◌≡◌, ◌∙◌, List, Option, ap, length, subst, sym}
use Rattle.std.proofs.lemmas.List.{length-map}
use Rattle.std.proofs.lemmas.Result.{on_ok_weaker}
use Rattle.wc_read.specs.Imports.{import_value, import_values}
use Rattle.wc_read.specs.Modules.{ModuleValue, module_value}
use Rattle.wc_read.specs.declared.types.Import.{Import}
use Rattle.wc_segments.specs.Segments.{SegmentsValue}
use Rattle.wc_summary.specs.Entries.{entries_view}
use Rattle.wc_summary.specs.Leads.{Tags, tags_view}
use Rattle.wc_summary.specs.Notes.{NotesMainModule}
use Rattle.wc_module_ways.specs.Imports.{main_tags}
use Rattle.wc_import_paths.specs.MainModules.{main_view, segments_of}
use Rattle.wc_module_ways.proofs.imports.note_main.Goals as goal

pub note_main_module-requires : goal.note_main_module-requires
note_main_module-requires c =
    ap length c.deref-2.ensures.value
    ∙ (c.in_ok-tags.ensures.sized ∙ (ap length c.deref.ensures.value ∙ sym (length-map c.code-code.result.now.imports.items import_value)))

pub returns : goal.returns
returns c given has =
    let p = c.args.modules.now.main in
    let m = module_value c.code-code.result.now in
    let old = entries_view c.args.entries.now.entries in
    let new = entries_view c.note_main_module.new.entries.entries in
    let tags : tags_view c.deref-2.result.now ≡ main_tags given m.imports =
    ap tags_view c.deref-2.ensures.value
    ∙ (c.in_ok-tags.ensures.tags given has ∙ ap (λ (l : List Import). main_tags given (import_values l)) c.deref.ensures.value) in
    on_ok_weaker c.note_main_module.result
    (λ n. subst (λ (v : ModuleValue). NotesMainModule v (segments_of (main_view p)) (main_tags given v.imports) old new) c.code-code.ensures
    (subst (λ (t : Tags). NotesMainModule m (segments_of (main_view p)) t old new) tags
    (subst (λ (s : Option SegmentsValue). NotesMainModule m s (tags_view c.deref-2.result.now) old new) c.segments.ensures n)))
    c.note_main_module.ensures
