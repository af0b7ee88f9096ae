use Rattle.std.proofs.Common.{is_some, ap, sym, ◌∙◌}
use Rattle.wc_summary.proofs.EntryLemmas.{found_place, new_place}
use Rattle.wc_summary.proofs.entries.place_of.Goals as goal

pub returns-in-Some : goal.returns-in-Some
returns-in-Some c =
    found_place c.args.entries.now.entries c.args.interface.now c.in-Some.place (sym c.get_index_of.ensures.index ∙ c.in-Some.is)

pub returns-in_ok-insert-in-None : goal.returns-in_ok-insert-in-None
returns-in_ok-insert-in-None c =
    new_place c.args.entries.now c.in_ok-name-in-None.name c.empty_entry.result c.args.interface.now c.len-place.result _
    (sym c.get_index_of.ensures.found ∙ ap is_some c.in-None.is) c.in_ok-name-in-None.ensures.ok c.empty_entry.ensures c.len-place.ensures.len c.in_ok-insert-in-None.ensures.entries
