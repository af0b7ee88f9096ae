use Rattle.std.proofs.Common.{length, map}
use Rattle.wc_read.specs.Operators.{instr_value, SpellsInstr}
use Rattle.wc_read.proofs.ToEndLemmas.{IsReadTo}
use Rattle.wc_read.proofs.bodies.operators.Given as goal

abbrev pub invariant-loop-reader : goal.invariant-loop-reader
invariant-loop-reader l = IsReadTo SpellsInstr (map instr_value l.operators.items) l.reader.rest.now l.fn.bytes

abbrev pub decreases-loop-reader : goal.decreases-loop-reader
decreases-loop-reader l = length l.reader.rest.now
