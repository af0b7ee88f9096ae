use Rattle.std.proofs.Common.{ap, sym, ◌∙◌, refl}
use Rattle.std.specs.Option.{option_copied_mut}
use Rattle.wc_summary.specs.Private.Entries.{counted}
use Rattle.wc_summary.proofs.EntryLemmas.{changed_at, changed_past}
use Rattle.wc_summary.proofs.entries.count_main.Goals as goal

pub returns-in-Some : goal.returns-in-Some
returns-in-Some c =
    changed_at counted c.args.entries.now.entries c.args.place c.in-Some.entry.now _ c.get_index_mut.ensures.unique
    (sym c.get_index_mut.ensures.value ∙ ap option_copied_mut c.in-Some.is) (rw c.saturating_add-entry.ensures refl)

pub returns-in_default : goal.returns-in_default
returns-in_default c =
    changed_past counted c.args.entries.now.entries c.args.place (sym c.get_index_mut.ensures.value ∙ ap option_copied_mut c.in_default.is)
