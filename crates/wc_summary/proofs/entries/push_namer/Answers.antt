use Rattle.std.proofs.Common.{ℕ, ◌-◌, List, Option, Some, length, nat_eq, slice_get, ap, sym, ◌∙◌}
use Rattle.std.specs.Option.{option_copied_mut, option_eq}
use Rattle.wc_summary.specs.Private.Entries.{named_by}
use Rattle.wc_summary.proofs.EntryLemmas.{changed_at, changed_past, is_last, namer_kept, namer_pushed, not_last}
use Rattle.wc_summary.proofs.entries.push_namer.Goals as goal

pub returns-in_ok-push : goal.returns-in_ok-push
returns-in_ok-push c =
    changed_at (named_by c.args.index) c.args.entries.now.entries c.args.place c.in-Some.entry.now _ c.get_index_mut.ensures.unique
    (sym c.get_index_mut.ensures.value ∙ ap option_copied_mut c.in-Some.is)
    (namer_pushed c.in-Some.entry.now c.args.index _
    (ap (λ (o : Option ℕ). option_eq nat_eq o (Some c.args.index)) (sym (c.copied.ensures ∙ (c.last.ensures.value ∙ ap (λ (l : List ℕ). slice_get l (length l - 1)) c.deref.ensures.value)))
    ∙ not_last (option_eq nat_eq c.copied.result (Some c.args.index)) _ c.ne.ensures c.if-ne.true) c.in_ok-push.ensures.items)

pub returns-else-ne : goal.returns-else-ne
returns-else-ne c =
    changed_at (named_by c.args.index) c.args.entries.now.entries c.args.place c.in-Some.entry.now _ c.get_index_mut.ensures.unique
    (sym c.get_index_mut.ensures.value ∙ ap option_copied_mut c.in-Some.is)
    (namer_kept c.in-Some.entry.now c.args.index
    (ap (λ (o : Option ℕ). option_eq nat_eq o (Some c.args.index)) (sym (c.copied.ensures ∙ (c.last.ensures.value ∙ ap (λ (l : List ℕ). slice_get l (length l - 1)) c.deref.ensures.value)))
    ∙ is_last (option_eq nat_eq c.copied.result (Some c.args.index)) _ c.ne.ensures c.if-ne.false))

pub returns-in_default : goal.returns-in_default
returns-in_default c =
    changed_past (named_by c.args.index) c.args.entries.now.entries c.args.place
    (sym c.get_index_mut.ensures.value ∙ ap option_copied_mut c.in_default.is)
