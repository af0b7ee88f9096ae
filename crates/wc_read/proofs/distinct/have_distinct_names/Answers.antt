use Rattle.wc_read.proofs.DistinctNamesLemmas.{names_differ}
use Rattle.wc_read.proofs.distinct.have_distinct_names.Goals as goal

pub returns-clause-distinct : goal.returns-clause-distinct
returns-clause-distinct c = names_differ c.args.exports.now c.sort.new.self.items (rw c.in_ok-names.ensures at c.sort.ensures.permutation) c.in_ok-sort.ensures.sorted _ (rw c.deref.ensures.value at c.do_neighbours_differ.ensures)
