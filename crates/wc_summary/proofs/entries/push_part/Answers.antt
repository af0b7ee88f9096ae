use Rattle.std.proofs.Common.{ap, sym, ◌∙◌}
use Rattle.std.specs.Option.{option_copied_mut}
use Rattle.wc_summary.specs.Private.Entries.{with_part}
use Rattle.wc_summary.specs.Summary.{part_view}
use Rattle.wc_summary.proofs.EntryLemmas.{changed_at, changed_past, part_pushed}
use Rattle.wc_summary.proofs.entries.push_part.Goals as goal

pub returns-in_ok-push : goal.returns-in_ok-push
returns-in_ok-push c =
    changed_at (with_part (part_view c.args.part)) c.args.entries.now.entries c.args.place c.in-Some.entry.now _ c.get_index_mut.ensures.unique
    (sym c.get_index_mut.ensures.value ∙ ap option_copied_mut c.in-Some.is) (part_pushed c.in-Some.entry.now c.args.part _ c.in_ok-push.ensures.items)

pub returns-in_default : goal.returns-in_default
returns-in_default c =
    changed_past (with_part (part_view c.args.part)) c.args.entries.now.entries c.args.place
    (sym c.get_index_mut.ensures.value ∙ ap option_copied_mut c.in_default.is)
