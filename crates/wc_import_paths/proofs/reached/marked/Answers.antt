use Rattle.std.proofs.Common.{rules}
use Rattle.wc_paths.specs.Counts.{counts_value}
use Rattle.wc_import_paths.proofs.ReachedLemmas.{both_marked, none_reached}
use Rattle.wc_import_paths.proofs.reached.marked.Goals as goal

pub returns : goal.returns
returns c =
    both_marked (counts_value c.args.counts.now) c.args.first.now c.args.second.now _ c.mark_all.new.reached.items c.mark_all-2.new.reached.items
    (none_reached c.args.counts.now.funcs _ (search rules)) (search rules) c.mark_all.ensures.sized c.mark_all.ensures.marks c.mark_all-2.ensures.marks
