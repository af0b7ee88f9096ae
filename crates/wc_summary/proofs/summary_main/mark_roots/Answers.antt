use Rattle.wc_paths.specs.Counts.{counts_value}
use Rattle.wc_summary.proofs.NamerLemmas.{marked_none}
use Rattle.wc_summary.proofs.summary_main.mark_roots.Goals as goal

pub loop-root-init : goal.loop-root-init
loop-root-init c = marked_none (counts_value c.args.counts.now) c.args.labels.now.items
