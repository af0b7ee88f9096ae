use Rattle.std.proofs.Common.{◌<◌, ◌∙◌, arith, length, refl}
use Rattle.wc_paths.specs.Counts.{counts_value}
use Rattle.wc_import_paths.proofs.ReachedLemmas.{marks_next, no_marks}
use Rattle.wc_import_paths.proofs.reached.mark_all.Goals as goal

pub loop-number-init : goal.loop-number-init
loop-number-init c = record { sized = refl; marks = no_marks (counts_value c.args.counts.now) c.args.reached.now.items }

pub loop-number-preserved : goal.loop-number-preserved
loop-number-preserved c =
    let within : c.loop-number.number-index < length c.args.numbers.now = omega arith in
    record {
      sized = c.mark.ensures.sized ∙ c.loop-number.invariant.sized;
      marks = marks_next (counts_value c.args.counts.now) c.args.numbers.now c.loop-number.number-index _ c.args.reached.now.items
          c.loop-number.reached.items c.mark.new.reached.items within c.loop-number.invariant.sized c.loop-number.invariant.marks
          (rw c.item_at.ensures at c.mark.ensures.marks);
    }
