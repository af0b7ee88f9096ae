use Rattle.std.proofs.Common.{ap, map, option_map, rules, string_bytes}
use Rattle.wc_world.specs.WorldViews.{imported_entry, imported_view, world_view}
use Rattle.wc_ways.specs.Tags.{all_key}
use Rattle.wc_summary.specs.Entries.{entries_view}
use Rattle.wc_ways.specs.Types.{typed_name, user_in}
use Rattle.wc_ways.proofs.NoteLemmas.{typed_end, typed_next, typed_start}
use Rattle.wc_ways.proofs.types.note_all_typed.Goals as goal

pub loop-name-init : goal.loop-name-init
loop-name-init c =
    let w = world_view c.args.world.now in
    typed_start (typed_name w all_key) (user_in w) w.import_map (entries_view c.args.entries.now.entries) _ (search rules)

pub loop-name-preserved : goal.loop-name-preserved
loop-name-preserved c =
    let w = world_view c.args.world.now in
    typed_next (typed_name w all_key) (user_in w) w.import_map (entries_view c.args.entries.now.entries) (map imported_entry c.loop-name.name-iterator)
    (map imported_entry c.next.new.self) (option_map string_bytes c.in-Some.name.now, imported_view c.in-Some.imported.now) (entries_view c.loop-name.entries.entries)
    (entries_view c.note_if_typed.new.entries.entries) (ap (map imported_entry) c.in-Some.ensures.steps) c.in_ok-note_if_typed.ensures c.loop-name.invariant

pub returns : goal.returns
returns c =
    let w = world_view c.args.world.now in
    typed_end (typed_name w all_key) (user_in w) w.import_map (entries_view c.args.entries.now.entries) (map imported_entry c.loop-name.name-iterator)
    (entries_view c.loop-name.entries.entries) (ap (map imported_entry) c.in-None.ensures.steps.0) c.loop-name.invariant
