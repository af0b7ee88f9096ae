use Rattle.std.proofs.Common.{◌∙◌, ap, map, option_map, string_bytes}
use Rattle.wc_world.specs.WorldViews.{imported_entry, imported_view, world_view}
use Rattle.wc_summary.specs.Entries.{entries_view}
use Rattle.wc_ways.proofs.LeaderLemmas.{names_apart}
use Rattle.wc_ways.proofs.SharedLemmas.{shared_all, shared_next, shared_start}
use Rattle.wc_ways.proofs.summary_shared.share_entries.Goals as goal

pub loop-name-init : goal.loop-name-init
loop-name-init c =
    let is = ap (map imported_entry) c.into_iter-name-iterator.ensures.into_iter_gives in
    let all = ap (map imported_entry) c.iter-name-items.ensures.rest in
    shared_start (world_view c.args.world.now) _ (entries_view c.args.entries.now.entries) (is ∙ all)
    (names_apart c.args.world.now.import_map.entries c.iter-name-items.ensures.unique)

pub loop-name-preserved : goal.loop-name-preserved
loop-name-preserved c =
    let w = world_view c.args.world.now in
    shared_next w (entries_view c.args.entries.now.entries) (map imported_entry c.loop-name.name-iterator) (map imported_entry c.next.new.self)
    (option_map string_bytes c.in-Some.name.now, imported_view c.in-Some.imported.now) (entries_view c.loop-name.entries.entries)
    (entries_view c.share_import.new.entries.entries) (ap (map imported_entry) c.in-Some.ensures.steps) (c.in_ok-share_import.ensures w c.requires) c.loop-name.invariant

pub returns : goal.returns
returns c =
    shared_all (world_view c.args.world.now) (entries_view c.args.entries.now.entries) (entries_view c.loop-name.entries.entries) (map imported_entry c.loop-name.name-iterator)
    (ap (map imported_entry) c.in-None.ensures.steps.0) c.loop-name.invariant
