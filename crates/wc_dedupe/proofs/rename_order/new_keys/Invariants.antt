use Rattle.std.proofs.Common.{map}
use Rattle.wc_dedupe.specs.Private.NameKeys.{AreKeys}
use Rattle.wc_dedupe.specs.Private.RenameOrder.{new_name}
use Rattle.wc_dedupe.proofs.rename_order.new_keys.Given as goal

abbrev pub invariant-loop-index : goal.invariant-loop-index
invariant-loop-index l = AreKeys (map new_name l.renames) l.index l.keys.items
