use Rattle.std.proofs.Common.{◌∙◌, ap, map}
use Rattle.wc_world.specs.WorldViews.{adapter_entry, world_view}
use Rattle.wc_world.proofs.FaultLemmas.{passed_on}
use Rattle.wc_ways.specs.WaysFaults.{IsWaysFault}
use Rattle.wc_summary.specs.Entries.{entries_view}
use Rattle.wc_ways.proofs.AdapterNoteLemmas.{far_end, far_in, far_one, far_start}
use Rattle.wc_ways.proofs.OriginalLemmas.{fault_of}
use Rattle.wc_ways.proofs.summary_adapters.note_adapters.Goals as goal

pub loop-name-init : goal.loop-name-init
loop-name-init c =
    let is = ap (map adapter_entry) c.into_iter-name-iterator.ensures.into_iter_gives in
    let all = ap (map adapter_entry) c.iter-name-items.ensures.rest in
    far_start (world_view c.args.world.now) _ (entries_view c.args.entries.now.entries) (is ∙ all)

pub returns-in_err-note_adapter-clause-fault : goal.returns-in_err-note_adapter-clause-fault
returns-in_err-note_adapter-clause-fault c =
    let w = world_view c.args.world.now in
    let y = adapter_entry (c.in-Some.name.now, c.in-Some.adapter.now) in
    passed_on (IsWaysFault w) c.from_residual.result _ c.from_residual.ensures.1
    (fault_of w y _ (far_in w (map adapter_entry c.loop-name.name-iterator) (map adapter_entry c.next.new.self) y (entries_view c.args.entries.now.entries)
    (entries_view c.loop-name.entries.entries) (ap (map adapter_entry) c.in-Some.ensures.steps) c.loop-name.invariant) c.in_err-note_adapter.ensures.fault)

pub loop-name-preserved : goal.loop-name-preserved
loop-name-preserved c =
    far_one (world_view c.args.world.now) (map adapter_entry c.loop-name.name-iterator) (map adapter_entry c.next.new.self)
    (adapter_entry (c.in-Some.name.now, c.in-Some.adapter.now)) (entries_view c.args.entries.now.entries) (entries_view c.loop-name.entries.entries)
    (entries_view c.note_adapter.new.entries.entries) (ap (map adapter_entry) c.in-Some.ensures.steps) c.in_ok-note_adapter.ensures.notes c.loop-name.invariant

pub returns-clause-notes : goal.returns-clause-notes
returns-clause-notes c =
    far_end (world_view c.args.world.now) (map adapter_entry c.loop-name.name-iterator) (entries_view c.args.entries.now.entries) (entries_view c.loop-name.entries.entries)
    (ap (map adapter_entry) c.in-None.ensures.steps.0) c.loop-name.invariant
