use Rattle.std.proofs.Common.{◌∙◌, ap, map}
use Rattle.wc_adapters.specs.Entries.{entries_of}
use Rattle.wc_world.specs.WorldViews.{adapter_entry}
use Rattle.wc_ways.specs.TypeRoots.{adapter_needs}
use Rattle.wc_ways.specs.Private.Needs.{noted_in}
use Rattle.wc_ways.proofs.NeedLemmas.{needs_end, needs_next, needs_start}
use Rattle.wc_ways.proofs.type_roots.note_adapters.Goals as goal

pub loop-name-init : goal.loop-name-init
loop-name-init c =
    let r = c.args.lists.resolve.now in
    needs_start r (adapter_needs r (entries_of c.args.lists.imports.now)) (map adapter_entry c.args.adapters.now.entries) (noted_in c.args.found.now) _
    (ap (map adapter_entry) (c.into_iter-name-iterator.ensures.into_iter_gives ∙ c.iter-name-items.ensures.rest))

pub loop-name-preserved : goal.loop-name-preserved
loop-name-preserved c =
    let r = c.args.lists.resolve.now in
    needs_next r (adapter_needs r (entries_of c.args.lists.imports.now)) (map adapter_entry c.args.adapters.now.entries) (noted_in c.args.found.now) (map adapter_entry c.loop-name.name-iterator)
    (map adapter_entry c.next.new.self) (adapter_entry (c.in-Some.name.now, c.in-Some.adapter.now)) (noted_in c.loop-name.found) (noted_in c.note_imports.new.found)
    (ap (map adapter_entry) c.in-Some.ensures.steps) c.in_ok-note_imports.ensures c.loop-name.invariant

pub returns : goal.returns
returns c =
    let r = c.args.lists.resolve.now in
    needs_end r (adapter_needs r (entries_of c.args.lists.imports.now)) (map adapter_entry c.args.adapters.now.entries) (noted_in c.args.found.now) (map adapter_entry c.loop-name.name-iterator)
    (noted_in c.loop-name.found) (ap (map adapter_entry) c.in-None.ensures.steps.0) c.loop-name.invariant
