use Rattle.std.proofs.Common.{ap, sym, ◌∙◌, refl}
use Rattle.std.specs.Option.{option_copied_mut}
use Rattle.std.proofs.Common.{Some}
use Rattle.wc_summary.specs.Entries.{with_types}
use Rattle.wc_summary.specs.Summary.{user_view}
use Rattle.wc_summary.proofs.EntryLemmas.{changed_at, changed_past, types_kept, types_new}
use Rattle.wc_summary.proofs.entries.set_types.Goals as goal

pub returns-then-is_none : goal.returns-then-is_none
returns-then-is_none c =
    changed_at (with_types (Some (user_view c.args.user))) c.args.entries.now.entries c.args.place c.in-Some.entry.now _ c.get_index_mut.ensures.unique
    (sym c.get_index_mut.ensures.value ∙ ap option_copied_mut c.in-Some.is) (types_new c.in-Some.entry.now _ c.args.user c.if-is_none.ensures refl)

pub returns-else-is_none : goal.returns-else-is_none
returns-else-is_none c =
    changed_at (with_types (Some (user_view c.args.user))) c.args.entries.now.entries c.args.place c.in-Some.entry.now _ c.get_index_mut.ensures.unique
    (sym c.get_index_mut.ensures.value ∙ ap option_copied_mut c.in-Some.is) (types_kept c.in-Some.entry.now (Some (user_view c.args.user)) c.if-is_none.ensures)

pub returns-in_default : goal.returns-in_default
returns-in_default c =
    changed_past (with_types (Some (user_view c.args.user))) c.args.entries.now.entries c.args.place
    (sym c.get_index_mut.ensures.value ∙ ap option_copied_mut c.in_default.is)
