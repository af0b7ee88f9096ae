use Rattle.std.proofs.Common.{◌∙◌, ap}
use Rattle.std.proofs.lemmas.Result.{on_ok_weaker}
use Rattle.wc_summary.specs.Entries.{entries_view}
use Rattle.wc_summary.specs.Leads.{tags_view}
use Rattle.wc_ways.specs.Private.SummaryAdapters.{world_of}
use Rattle.wc_ways.proofs.AdapterNoteLemmas.{library_noted}
use Rattle.wc_ways.proofs.summary_adapters.note_library.Goals as goal

pub returns : goal.returns
returns c =
    let g = c.args.named.now in
    let tags = tags_view c.deref.result.now in
    on_ok_weaker c.note_library.result
    (library_noted g tags (entries_view c.args.entries.now.entries) (entries_view c.note_library.new.entries.entries)
    (ap tags_view c.deref.ensures.value ∙ c.in_ok-tags.ensures (world_of g) c.requires))
    c.note_library.ensures
