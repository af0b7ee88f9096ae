use Rattle.wc_paths.specs.Private.Callers.{AreListed}
use Rattle.wc_paths.proofs.callers.lists_of.Given as goal

abbrev pub invariant-loop-index : goal.invariant-loop-index
invariant-loop-index l = AreListed l.functions l.index l.lists.entries
