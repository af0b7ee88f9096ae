use Rattle.std.proofs.Common.{ap, refl, sym, ◌∙◌, is_some}
use Rattle.wc_summary.specs.Entries.{entries_view}
use Rattle.wc_summary.specs.declared.summary.MainPart.{MainPart}
use Rattle.wc_summary.proofs.EntryLemmas.{found_place}
use Rattle.wc_ways.proofs.SharedEntryLemmas.{cleared_at, cleared_past, entry_absent}
use Rattle.wc_ways.proofs.summary_shared.clear_entry.Goals as goal

pub returns-in-Some : goal.returns-in-Some
returns-in-Some c =
    let main : MainPart = record { imports = 0; by = c.new.result } in
    cleared_at c.args.interface.now c.in-Some.place (entries_view c.args.entries.now.entries) (entries_view c.set_modules.new.entries.entries) main c.new-in-Some.result.items
    (found_place c.args.entries.now.entries c.args.interface.now c.in-Some.place (sym c.get_index_of.ensures.index ∙ c.in-Some.is)) c.set_modules.ensures refl c.new.ensures.items
    c.new-in-Some.ensures.items

pub returns-in_default : goal.returns-in_default
returns-in_default c =
    cleared_past c.args.interface.now (entries_view c.args.entries.now.entries)
    (entry_absent c.args.entries.now.entries c.args.interface.now (sym c.get_index_of.ensures.found ∙ ap is_some c.in_default.is))
