use Rattle.std.proofs.Common.{◌<◌, ◌≤◌, ◌^◌, arith}
use Rattle.wc_gc.proofs.NewIndexLemmas.{type_room}
use Rattle.wc_gc.proofs.new_indices.NewIndices.ty.Goals as goal

pub added_type-requires : goal.added_type-requires
added_type-requires c =
    type_room c.args.self.now c.args.index (let e : c.args.self.now.counts.types ≤ c.args.index = omega arith in e) (let e : c.args.index < 2 ^ 32 = omega arith in e)
