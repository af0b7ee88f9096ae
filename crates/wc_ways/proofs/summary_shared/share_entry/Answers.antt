use Rattle.std.proofs.Common.{ap, map, option_map, ◌∙◌}
use Rattle.wc_summary.specs.Entries.{entries_view}
use Rattle.wc_summary.specs.Summary.{part_view, parts_view}
use Rattle.wc_ways.specs.Private.SummaryShared.{modules_in}
use Rattle.wc_ways.proofs.SharedEntryLemmas.{entry_found, shared_none, shared_set}
use Rattle.wc_ways.proofs.summary_shared.share_entry.Goals as goal

pub returns-in_default : goal.returns-in_default
returns-in_default c =
    shared_none c.args.from.now c.args.to.now (entries_view c.args.entries.now.entries) (entries_view c.clear_entry.new.entries.entries)
    (entry_found c.args.entries.now.entries c.args.from.now c.get.result c.get.ensures.value ∙ ap (option_map (λ x. parts_view x.now)) c.in_default.is) c.clear_entry.ensures

pub returns : goal.returns
returns c =
    shared_set c.args.from.now c.args.to.now c.in_ok-place.place (entries_view c.args.entries.now.entries) (entries_view c.place_of.new.entries.entries)
    (entries_view c.set_modules.new.entries.entries) (parts_view c.in-Some.first.now) (modules_in c.in_ok-main.main c.in_ok-adapters.adapters.items)
    (entry_found c.args.entries.now.entries c.args.from.now c.get.result c.get.ensures.value ∙ ap (option_map (λ x. parts_view x.now)) c.in-Some.is) c.in_ok-place.ensures
    c.set_modules.ensures c.in_ok-main.ensures (c.in_ok-adapters.ensures ∙ ap (map part_view) c.deref.ensures.value)
