use Rattle.std.proofs.Common.{length, map}
use Rattle.wc_read.specs.Operators.{instr_value}
use Rattle.wc_read.specs.Reading.Inits.{ends, init_instr_at, init_at}
use Rattle.wc_read.proofs.UntilLemmas.{IsUntilPart}
use Rattle.wc_read.proofs.reader.Reader.init_operators.Given as goal

abbrev pub invariant-loop-operators : goal.invariant-loop-operators
invariant-loop-operators l = IsUntilPart ends init_instr_at (map instr_value l.operators.items) l.self.rest.now (init_at l.fn.self.rest.now)

abbrev pub decreases-loop-operators : goal.decreases-loop-operators
decreases-loop-operators l = length l.self.rest.now
