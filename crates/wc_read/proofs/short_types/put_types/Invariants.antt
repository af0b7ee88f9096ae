use Rattle.std.proofs.Common.{take}
use Rattle.wc_read.specs.Private.ShortTypes.{IsPut}
use Rattle.wc_read.proofs.short_types.put_types.Given as goal

abbrev pub invariant-loop-index : goal.invariant-loop-index
invariant-loop-index l = IsPut l.from (take l.index l.values) l.fn.types l.types
