use Rattle.std.proofs.Common.{◌≡◌, ◌++◌, map, drop}
use Rattle.wc_read.proofs.distinct.names_of.Given as goal

abbrev pub invariant-loop-export : goal.invariant-loop-export
invariant-loop-export l = l.names.items ++ map (λ e. e.name) (drop l.export-index l.exports) ≡ map (λ e. e.name) l.fn.exports
