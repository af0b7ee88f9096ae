use Rattle.std.proofs.Common.{map}
use Rattle.wc_read.specs.Types.{func_type_value}
use Rattle.wc_paths.specs.Private.EqualTypes.{AreFirstBefore, AreTypesBefore}
use Rattle.wc_paths.proofs.equal_types.first_equal.Given as goal

abbrev pub invariant-loop-index : goal.invariant-loop-index
invariant-loop-index l =
    AreTypesBefore (map func_type_value l.types) l.index l.places.entries × AreFirstBefore (map func_type_value l.types) l.index l.firsts.items
