use Rattle.std.proofs.Common.{map}
use Rattle.wc_world.specs.WorldViews.{imported_entry, world_view}
use Rattle.wc_ways.specs.Tags.{all_key}
use Rattle.wc_summary.specs.Entries.{entries_view}
use Rattle.wc_ways.specs.Types.{typed_name, user_in}
use Rattle.wc_ways.proofs.NoteLemmas.{TypedLeft}
use Rattle.wc_ways.proofs.types.note_all_typed.Given as goal

abbrev pub invariant-loop-name : goal.invariant-loop-name
invariant-loop-name l =
    TypedLeft (typed_name (world_view l.world) all_key) (user_in (world_view l.world)) (world_view l.world).import_map (map imported_entry l.name-iterator)
    (entries_view l.fn.entries.entries) (entries_view l.entries.entries)
