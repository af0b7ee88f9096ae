use Rattle.std.proofs.Common.{◌≡◌, ℕ, map, take}
use Rattle.wc_read.specs.Exports.{export_value}
use Rattle.wc_gc.specs.Bits.{bit_of}
use Rattle.wc_gc.specs.Edit.{is_exported_func}
use Rattle.wc_gc.proofs.func_groups.exported_funcs.Given as goal

abbrev pub invariant-loop-export : goal.invariant-loop-export
invariant-loop-export l = (n : ℕ) → bit_of l.funcs.words.items n ≡ is_exported_func (map export_value (take l.export-index l.exports)) n
