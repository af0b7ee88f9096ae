use Rattle.std.proofs.Common.{◌≡◌, length}
use Rattle.wc_validate.specs.Imports.Iter.{imports_left}
use Rattle.wc_validate.proofs.imports.iter.ImportsIterator.next.Given as goal

abbrev pub invariant-loop-names : goal.invariant-loop-names
invariant-loop-names l = imports_left l.self ≡ imports_left l.fn.self

abbrev pub decreases-loop-names : goal.decreases-loop-names
decreases-loop-names l = length l.self.modules
