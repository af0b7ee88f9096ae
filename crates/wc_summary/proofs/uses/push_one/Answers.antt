use Rattle.std.proofs.lemmas.Result.{on_ok_weaker}
use Rattle.wc_summary.specs.Summary.{part_view}
use Rattle.wc_summary.specs.Entries.{entries_view}
use Rattle.wc_summary.proofs.UseLemmas.{pushed_one}
use Rattle.wc_summary.proofs.uses.push_one.Goals as goal

pub returns : goal.returns
returns c =
    on_ok_weaker c.push_part.result
    (pushed_one c.args.interface.now c.in_ok-place.place (part_view c.args.part) (entries_view c.args.entries.now.entries) (entries_view c.place_of.new.entries.entries)
    (entries_view c.push_part.new.entries.entries) c.in_ok-place.ensures) c.push_part.ensures
