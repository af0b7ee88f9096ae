use Rattle.std.proofs.Common.{◌≡◌, length}
use Rattle.wc_validate.specs.Exports.Iter.{reallocs_left}
use Rattle.wc_validate.proofs.exports.iter.ReallocsIterator.next.Given as goal

abbrev pub invariant-loop-name : goal.invariant-loop-name
invariant-loop-name l = reallocs_left l.self ≡ reallocs_left l.fn.self

abbrev pub decreases-loop-name : goal.decreases-loop-name
decreases-loop-name l = length l.self.names
