use Rattle.std.proofs.Common.{◌≡◌, take, true}
use Rattle.wc_read.specs.Operators.{instr_values}
use Rattle.wc_read.specs.Decoded.{decoded_module}
use Rattle.wc_gc.specs.InRange.{is_code_in_range}
use Rattle.wc_gc.proofs.trim_place.bodies.first_outside.Given as goal

abbrev pub invariant-loop-index : goal.invariant-loop-index
invariant-loop-index l = is_code_in_range (decoded_module l.adapter) (instr_values (take l.index l.code)) ≡ true
