use Rattle.std.proofs.Common.{arith}
use Rattle.wc_gc.proofs.NewIndexLemmas.{old_room}
use Rattle.wc_gc.proofs.new_indices.NewIndices.old_func.Goals as goal

pub overflow_add-result-2 : goal.overflow_add-result-2
overflow_add-result-2 c = let room = old_room c.args.self.now c.args.index c.requires in omega (arith, room)
