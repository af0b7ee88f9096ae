use Rattle.std.proofs.Common.{◌∙◌, List, ap, map, string_bytes, subst, sym}
use Rattle.std.proofs.lemmas.Result.{on_ok_weaker}
use Rattle.wc_read.specs.Modules.{module_value}
use Rattle.wc_segments.specs.Segments.{segments_value}
use Rattle.wc_summary.specs.CoreModules.{LabelValue, NotesCoreModule, label_value}
use Rattle.wc_summary.specs.Entries.{entries_view}
use Rattle.wc_summary.specs.Leads.{tags_view}
use Rattle.wc_module_ways.specs.CoreImports.{filled_text}
use Rattle.wc_module_ways.proofs.core_imports.note_tagged.Goals as goal

pub labels_of-requires : goal.labels_of-requires
labels_of-requires c =
    let s = segments_value c.args.core.now.followed.segments in
    record {
      distinct = c.requires.spelled.spelled.has_sections.valid.distinct;
      items = c.deref-2.ensures.value ∙ c.in_ok-items.ensures;
      texts = ap (map string_bytes) c.deref-3.ensures.value
          ∙ (c.in_ok-texts.ensures ∙ ap (map (filled_text s)) (c.deref.ensures.value ∙ sym c.deref-2.ensures.value));
    }

pub note_core_module-requires : goal.note_core_module-requires
note_core_module-requires c = c.requires.sized

pub returns : goal.returns
returns c =
    let core = c.args.core.now in
    let old = entries_view c.args.entries.now.entries in
    let new = entries_view c.note_core_module.new.entries.entries in
    on_ok_weaker c.note_core_module.result
    (λ n. subst (λ (z : List LabelValue). NotesCoreModule (record {
      name = core.name.now;
      value = module_value core.followed.code;
      segments = segments_value core.followed.segments;
      tags = tags_view c.args.tags.now;
      labels = z;
    }) old new) (ap (map label_value) c.deref-4.ensures.value ∙ c.in_ok-labels.ensures) n)
    c.note_core_module.ensures
