use Rattle.std.proofs.Common.{◌≡◌, ◌++◌, map}
use Rattle.std.specs.List.{flat_map, range_with_len}
use Rattle.wc_paths.specs.Counts.{counts_value}
use Rattle.wc_import_paths.specs.Followed.{followed_view}
use Rattle.wc_import_paths.specs.Patterns.{is_shown}
use Rattle.wc_import_paths.specs.Shown.{end_view, import_end_at}
use Rattle.wc_import_paths.proofs.shown.push_asked.Given as goal

abbrev pub invariant-loop-position : goal.invariant-loop-position
invariant-loop-position l =
    map end_view l.shown.items ≡ map end_view l.fn.shown.items
    ++ flat_map (import_end_at 0 (counts_value l.counts) (is_shown l.asked) (followed_view l.followed).code.imports) (range_with_len 0 l.position)
