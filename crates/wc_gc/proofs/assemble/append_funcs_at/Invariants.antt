use Rattle.std.proofs.Common.{◌≡◌, ◌++◌, take}
use Rattle.wc_gc.specs.Bits.{bit_of}
use Rattle.wc_gc.specs.Private.Edit.{funcs_at, written_funcs}
use Rattle.wc_gc.proofs.assemble.append_funcs_at.Given as goal

abbrev pub invariant-loop-index : goal.invariant-loop-index
invariant-loop-index l = written_funcs l.items.items ≡ written_funcs l.fn.items.items ++ funcs_at l.edit (bit_of l.exported.words.items) l.funcs (take l.index-index l.indices)
