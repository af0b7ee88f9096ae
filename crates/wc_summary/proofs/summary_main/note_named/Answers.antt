use Rattle.std.proofs.Common.{ℕ, None, Some, ◌∙◌, ap, get_or, refl}
use Rattle.std.proofs.lemmas.Option.{slice_get-get_or}
use Rattle.wc_summary.specs.Entries.{entries_view}
use Rattle.wc_summary.proofs.NamerLemmas.{named_more, named_none, named_skipped}
use Rattle.wc_summary.proofs.summary_main.note_named.Goals as goal

pub loop-number-init : goal.loop-number-init
loop-number-init c = named_none c.args.owners.now c.args.function (entries_view c.args.entries.now.entries)

pub loop-number-preserved-in_default : goal.loop-number-preserved-in_default
loop-number-preserved-in_default c =
    named_skipped c.args.owners.now c.args.function c.args.named.now c.loop-number.number-index (get_or c.args.named.now c.loop-number.number-index 0)
    (entries_view c.args.entries.now.entries) (entries_view c.loop-number.entries.entries) (entries_view c.loop-number.entries.entries) c.loop-number-test.true refl
    c.loop-number.invariant c.in_default.is

pub loop-number-preserved : goal.loop-number-preserved
loop-number-preserved c =
    let n : ℕ = get_or c.args.named.now c.loop-number.number-index 0 in
    named_more c.args.owners.now c.args.function c.args.named.now c.loop-number.number-index n (entries_view c.args.entries.now.entries)
    (entries_view c.loop-number.entries.entries) (entries_view c.push_namer.new.entries.entries) c.loop-number-test.true refl c.loop-number.invariant c.in-Some.place
    c.in-Some.is (c.requires.below n c.in-Some.place (slice_get-get_or c.args.owners.now n None (c.requires.there c.loop-number.number-index 0 c.loop-number-test.true) ∙ ap Some c.in-Some.is))
    c.in_ok-push_namer.ensures
