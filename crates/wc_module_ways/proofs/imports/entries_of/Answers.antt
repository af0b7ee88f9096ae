use Rattle.std.proofs.Common.{rules}
use Rattle.wc_summary.specs.Entries.{entries_view}
use Rattle.wc_module_ways.proofs.ImportLemmas.{are_entries}
use Rattle.wc_module_ways.proofs.imports.entries_of.Goals as goal

pub returns-clause-entries : goal.returns-clause-entries
returns-clause-entries c w v =
    are_entries c.args.modules.now w v (entries_view c.with_hasher-entries.result.entries) (entries_view c.note_main.new.entries.entries)
    (entries_view c.note_adapters.new.entries.entries) (entries_view c.note_core.new.entries.entries) (entries_view c.sort_entries.new.entries.entries)
    (search rules) (c.in_ok-note_main.ensures w.given v.names) c.in_ok-note_adapters.ensures.notes (c.in_ok-note_core.ensures w.given v.names)
    c.in_ok-sort_entries.ensures
