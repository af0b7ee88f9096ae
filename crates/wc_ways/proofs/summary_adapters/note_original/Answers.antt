use Rattle.std.proofs.Common.{◌≡◌, ◌∙◌, List, ap, length}
use Rattle.std.proofs.lemmas.Result.{on_ok_weaker}
use Rattle.wc_gc.specs.LiveItems.{names_of}
use Rattle.wc_read.specs.Imports.{import_values}
use Rattle.wc_read.specs.Modules.{module_value}
use Rattle.wc_read.specs.declared.types.Import.{Import}
use Rattle.wc_summary.specs.Entries.{entries_view}
use Rattle.wc_summary.specs.Leads.{tags_view}
use Rattle.wc_summary.specs.Parts.{is_wanted_in}
use Rattle.wc_ways.specs.Imports.{tags_of}
use Rattle.wc_ways.specs.Tags.{tags_in}
use Rattle.wc_ways.specs.Private.SummaryAdapters.{info_of, original_in, world_of}
use Rattle.wc_ways.proofs.AdapterNoteLemmas.{original_noted}
use Rattle.wc_ways.proofs.MainNoteLemmas.{tags_sized}
use Rattle.wc_ways.proofs.summary_adapters.note_original.Goals as goal

pub note_adapter_module-requires : goal.note_adapter_module-requires
note_adapter_module-requires c =
    let g = c.args.named.now in
    ap length c.deref-2.ensures.value
    ∙ (tags_sized (world_of g) (info_of g).imports (import_values c.deref.result.now) c.in_ok-tags.tags.items (c.in_ok-tags.ensures (world_of g) c.requires.asked)
    ∙ ap (λ (l : List Import). length (import_values l)) c.deref.ensures.value)

pub returns : goal.returns
returns c =
    let g = c.args.named.now in
    let a = original_in g (module_value c.args.original.now) in
    let tags : tags_view c.deref-2.result.now ≡ tags_of a =
    ap tags_view c.deref-2.ensures.value
    ∙ (c.in_ok-tags.ensures (world_of g) c.requires.asked ∙ ap (λ (l : List Import). tags_in (world_of g) (info_of g).imports (import_values l)) c.deref.ensures.value) in
    on_ok_weaker c.note_adapter_module.result
    (original_noted a (tags_view c.deref-2.result.now) (names_of c.args.required.names.now.keys) (is_wanted_in c.args.required) (entries_view c.args.entries.now.entries)
    (entries_view c.note_adapter_module.new.entries.entries) tags c.requires.required
    c.requires.wanted)
    c.note_adapter_module.ensures
