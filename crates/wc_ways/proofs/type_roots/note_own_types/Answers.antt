use Rattle.std.proofs.Common.{◌∙◌, ap, map}
use Rattle.wc_resolve.specs.Views.{item_view, key_view, world_entry}
use Rattle.wc_ways.specs.Private.Needs.{noted_in}
use Rattle.wc_ways.specs.TypeRoots.{own_needs}
use Rattle.wc_ways.proofs.NeedLemmas.{needs_end, needs_next, needs_start}
use Rattle.wc_ways.proofs.type_roots.note_own_types.Goals as goal

pub loop-key-init : goal.loop-key-init
loop-key-init c =
    let r = c.args.lists.resolve.now in
    needs_start r (own_needs r) (map world_entry c.args.lists.imports.now.entries) (noted_in c.args.found.now) _
    (ap (map world_entry) (c.into_iter-key-iterator.ensures.into_iter_gives ∙ c.iter-key-items.ensures.rest))

pub loop-key-preserved : goal.loop-key-preserved
loop-key-preserved c =
    let r = c.args.lists.resolve.now in
    needs_next r (own_needs r) (map world_entry c.args.lists.imports.now.entries) (noted_in c.args.found.now) (map world_entry c.loop-key.key-iterator)
    (map world_entry c.next.new.self) (key_view c.in-Some.key.now, item_view c.in-Some.item.now) (noted_in c.loop-key.found) (noted_in c.note_own_type.new.found)
    (ap (map world_entry) c.in-Some.ensures.steps) c.in_ok-note_own_type.ensures c.loop-key.invariant

pub returns : goal.returns
returns c =
    let r = c.args.lists.resolve.now in
    needs_end r (own_needs r) (map world_entry c.args.lists.imports.now.entries) (noted_in c.args.found.now) (map world_entry c.loop-key.key-iterator)
    (noted_in c.loop-key.found) (ap (map world_entry) c.in-None.ensures.steps.0) c.loop-key.invariant
