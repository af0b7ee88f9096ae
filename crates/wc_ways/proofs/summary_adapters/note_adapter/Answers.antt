use Rattle.std.proofs.Common.{◌≡◌, ◌∙◌, ◌⊎◌, List, ℕ, ap, inr, option_map, subst}
use Rattle.std.proofs.lemmas.Result.{IfErr-weaker, on_ok_weaker}
use Rattle.wc_adapters.specs.Adapters.{adapter_view, library_view}
use Rattle.wc_gc.specs.LiveItems.{IsFault}
use Rattle.wc_gc.specs.declared.fault.GcFault.{GcFault}
use Rattle.wc_gc.specs.declared.fault.GcFault.TheVariants.{Memory}
use Rattle.wc_ways.specs.Private.SummaryAdapters.{NotesWasm, entry_of, info_of, world_of}
use Rattle.wc_summary.specs.Entries.{entries_view}
use Rattle.wc_ways.specs.WaysFaults.{IsAdapterFault, search_input}
use Rattle.wc_ways.proofs.AdapterNoteLemmas.{library_adapter, missing_adapter, trimmed_adapter}
use Rattle.wc_ways.proofs.RecordLemmas.{viewed_found}
use Rattle.wc_ways.proofs.summary_adapters.note_adapter.Goals as goal

pub returns-in-Ok-clause-notes : goal.returns-in-Ok-clause-notes
returns-in-Ok-clause-notes c =
    library_adapter c.args.named.now (entries_view c.args.entries.now.entries) (entries_view c.note_library.new.entries.entries) (library_view c.in-Some.field-0.now)
    (ap (option_map (λ l. library_view l.now)) c.in-Some.is) c.in-Ok.ensures

pub returns-in-Some-get-clause-notes : goal.returns-in-Some-get-clause-notes
returns-in-Some-get-clause-notes c =
    let g = c.args.named.now in
    let old = entries_view c.args.entries.now.entries in
    let new = entries_view c.note_trimmed.new.entries.entries in
    on_ok_weaker c.note_trimmed.result
    (λ n. trimmed_adapter g old new (adapter_view c.in-Some-get.input.now) (ap (option_map (λ l. library_view l.now)) c.in-None.is)
    (viewed_found adapter_view c.adapters.result.now.entries (world_of g).encoder.adapters g.name.now c.get.result c.adapters.ensures c.get.ensures.value
    ∙ ap (option_map (λ x. adapter_view x.now)) c.in-Some-get.is)
    (subst (λ (z : List ℕ). NotesWasm g z old new) c.deref.ensures.value n)) c.note_trimmed.ensures.notes

pub returns-in-Some-get-clause-fault : goal.returns-in-Some-get-clause-fault
returns-in-Some-get-clause-fault c =
    let g = c.args.named.now in
    IfErr-weaker c.note_trimmed.result (IsFault (search_input (world_of g) g.name.now (info_of g) c.deref.result.now))
    (λ (f : GcFault). (f ≡ Memory) ⊎ IsAdapterFault (world_of g) (entry_of g) f)
    (λ f h. inr (
      ap (option_map (λ l. library_view l.now)) c.in-None.is,
      (
        adapter_view c.in-Some-get.input.now,
        viewed_found adapter_view c.adapters.result.now.entries (world_of g).encoder.adapters g.name.now c.get.result c.adapters.ensures c.get.ensures.value
            ∙ ap (option_map (λ x. adapter_view x.now)) c.in-Some-get.is,
        subst (λ (z : List ℕ). IsFault (search_input (world_of g) g.name.now (info_of g) z) f) c.deref.ensures.value h,
      ),
    )) c.note_trimmed.ensures.fault

pub returns-in-None-get-clause-notes : goal.returns-in-None-get-clause-notes
returns-in-None-get-clause-notes c =
    let g = c.args.named.now in
    missing_adapter g (entries_view c.args.entries.now.entries) (ap (option_map (λ l. library_view l.now)) c.in-None.is)
    (viewed_found adapter_view c.adapters.result.now.entries (world_of g).encoder.adapters g.name.now c.get.result c.adapters.ensures c.get.ensures.value
    ∙ ap (option_map (λ x. adapter_view x.now)) c.in-None-get.is)
