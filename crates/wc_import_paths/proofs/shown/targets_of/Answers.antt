use Rattle.std.proofs.Common.{◌<◌, arith, length}
use Rattle.wc_import_paths.specs.Shown.{end_view, target_of}
use Rattle.wc_import_paths.proofs.PickedLemmas.{mapped_more}
use Rattle.wc_import_paths.proofs.shown.targets_of.Goals as goal

pub loop-end-preserved : goal.loop-end-preserved
loop-end-preserved c =
    let within : c.loop-end.end-index < length c.args.shown.now = omega arith in
    mapped_more end_view target_of c.args.shown.now c.loop-end.end-index _ c.loop-end.targets.items c.push.new.self.items within c.loop-end.invariant
    (rw c.target_of.ensures at c.in_ok-push.ensures.items)
