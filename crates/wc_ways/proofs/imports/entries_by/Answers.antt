use Rattle.std.proofs.Common.{rules}
use Rattle.wc_world.specs.WorldViews.{world_view}
use Rattle.wc_summary.specs.Entries.{entries_view}
use Rattle.wc_ways.proofs.AllEntriesLemmas.{are_entries}
use Rattle.wc_ways.proofs.imports.entries_by.Goals as goal

pub returns-clause-entries : goal.returns-clause-entries
returns-clause-entries c =
    are_entries (world_view c.args.world.now) (entries_view c.with_hasher-entries.result.entries) (entries_view c.note_main.new.entries.entries)
    (entries_view c.note_adapters.new.entries.entries) (entries_view c.note_typed.new.entries.entries) (entries_view c.share_entries.new.entries.entries) (entries_view c.sort_entries.new.entries.entries) (search rules)
    c.in_ok-note_main.ensures c.in_ok-note_adapters.ensures.notes c.in_ok-note_typed.ensures c.in_ok-share_entries.ensures c.in_ok-sort_entries.ensures
