use Rattle.std.proofs.Common.{◌≡◌, ◌∙◌, List, ap, length, map, sym}
use Rattle.std.proofs.lemmas.List.{length-map}
use Rattle.std.proofs.lemmas.Result.{on_ok_weaker}
use Rattle.std.specs.List.{list_any}
use Rattle.std.specs.Str.{bytes_eq}
use Rattle.wc_read.specs.Imports.{import_value, import_values}
use Rattle.wc_read.specs.declared.types.Import.{Import}
use Rattle.std.specs.Prelude.{◌&&◌, not}
use Rattle.wc_maps.specs.Texts.{is_in}
use Rattle.wc_why.specs.Texts.{text_of}
use Rattle.wc_summary.specs.Entries.{entries_view}
use Rattle.wc_summary.specs.Leads.{tag_view, tags_view}
use Rattle.wc_module_ways.specs.Adapters.{adapter_view}
use Rattle.wc_module_ways.specs.Private.Imports.{tags_at}
use Rattle.wc_module_ways.proofs.ImportLemmas.{adapter_noted, tags_are}
use Rattle.wc_module_ways.proofs.imports.note_trimmed.Goals as goal

pub adapter_tags-requires : goal.adapter_tags-requires
adapter_tags-requires c =
    let a = adapter_view c.args.adapter.now in
    ap length c.deref-2.ensures.value
    ∙ (c.requires.imports.each ∙ (length-map c.args.adapter.now.code.imports.items import_value ∙ sym (ap length c.deref.ensures.value)))

pub note_adapter_module-requires : goal.note_adapter_module-requires
note_adapter_module-requires c =
    let a = adapter_view c.args.adapter.now in
    let is : tags_view c.in_ok-tags.tags.items ≡ tags_at a.code.imports c.args.chains.now.imports.items =
    c.in_ok-tags.ensures ∙ (ap (λ (l : List Import). tags_at (import_values l) c.deref-2.result.now) c.deref.ensures.value
    ∙ ap (tags_at a.code.imports) c.deref-2.ensures.value) in
    ap length c.deref-4.ensures.value
    ∙ (sym (length-map c.in_ok-tags.tags.items tag_view) ∙ (tags_are a c.args.chains.now (tags_view c.in_ok-tags.tags.items) c.requires is).sized)

pub returns : goal.returns
returns c =
    let a = adapter_view c.args.adapter.now in
    let is : tags_view c.deref-4.result.now ≡ tags_at a.code.imports c.args.chains.now.imports.items =
    ap tags_view c.deref-4.ensures.value
    ∙ (c.in_ok-tags.ensures ∙ (ap (λ (l : List Import). tags_at (import_values l) c.deref-2.result.now) c.deref.ensures.value
    ∙ ap (tags_at a.code.imports) c.deref-2.ensures.value)) in
    on_ok_weaker c.note_adapter_module.result
    (λ h imports are. adapter_noted imports a (tags_view c.deref-4.result.now) _ (entries_view c.args.entries.now.entries)
    (entries_view c.note_adapter_module.new.entries.entries) (tags_are a c.args.chains.now (tags_view c.deref-4.result.now) c.requires is)
    (λ e. c.in_ok-wanted.ensures e
    ∙ (λ t. not (is_in (map text_of (c.deref-3.ensures.value t)) e) && list_any (bytes_eq e) ((c.names_at-imported.ensures ∙ are a.name) t))) h)
    c.note_adapter_module.ensures
