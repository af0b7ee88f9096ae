use Rattle.std.proofs.Common.{List}
use Rattle.wc_dedupe.specs.Renaming.{ImportName}
use Rattle.wc_dedupe.proofs.RenameAllLemmas.{IsRenamedTo}
use Rattle.wc_dedupe.proofs.renaming.rename_each.Given as goal

abbrev pub invariant-loop-i : goal.invariant-loop-i
invariant-loop-i l = (ns : List ImportName) × IsRenamedTo l.fn.names l.i l.known.names.now ns l.indices.items l.renames l.numbers.items
