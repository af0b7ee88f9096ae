use Rattle.std.proofs.Common.{map}
use Rattle.wc_paths.specs.Counts.{counts_value}
use Rattle.wc_import_paths.specs.Followed.{followed_view}
use Rattle.wc_import_paths.specs.Patterns.{is_shown}
use Rattle.wc_import_paths.specs.Shown.{end_view, import_end_at}
use Rattle.wc_import_paths.proofs.PickedLemmas.{ranged_more}
use Rattle.wc_import_paths.proofs.shown.push_asked.Goals as goal

pub loop-position-preserved : goal.loop-position-preserved
loop-position-preserved c =
    ranged_more (import_end_at 0 (counts_value c.args.counts.now) (is_shown c.args.asked.now) (followed_view c.args.followed.now).code.imports)
    c.loop-position.position (map end_view c.args.shown.now.items) (map end_view c.loop-position.shown.items)
    (map end_view c.push_asked_at.new.shown.items) c.loop-position.invariant c.in_ok-push_asked_at.ensures
