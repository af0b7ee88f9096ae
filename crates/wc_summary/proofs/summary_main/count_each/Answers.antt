use Rattle.std.proofs.Common.{None, Some, ◌∙◌, ap}
use Rattle.std.proofs.lemmas.Option.{slice_get-get_or}
use Rattle.wc_summary.specs.Entries.{entries_view}
use Rattle.wc_summary.proofs.NamerLemmas.{counts_more, counts_none, counts_skipped}
use Rattle.wc_summary.proofs.summary_main.count_each.Goals as goal

pub loop-place-init : goal.loop-place-init
loop-place-init c = counts_none (entries_view c.args.entries.now.entries)

pub loop-place-preserved-in_default : goal.loop-place-preserved-in_default
loop-place-preserved-in_default c =
    counts_skipped c.args.places.now c.loop-place.place-index (entries_view c.args.entries.now.entries) (entries_view c.loop-place.entries.entries)
    (entries_view c.loop-place.entries.entries) c.loop-place-test.true c.requires.fits c.loop-place.invariant c.in_default.is

pub loop-place-preserved : goal.loop-place-preserved
loop-place-preserved c =
    counts_more c.args.places.now c.loop-place.place-index (entries_view c.args.entries.now.entries) (entries_view c.loop-place.entries.entries)
    (entries_view c.count_main.new.entries.entries) c.loop-place-test.true c.requires.fits c.loop-place.invariant c.in-Some.place c.in-Some.is
    (c.requires.below c.loop-place.place-index c.in-Some.place (slice_get-get_or c.args.places.now c.loop-place.place-index None c.loop-place-test.true ∙ ap Some c.in-Some.is)) c.count_main.ensures
