use Rattle.std.proofs.Common.{◌<◌, ◌≤◌, ◌^◌, arith}
use Rattle.wc_gc.proofs.NewIndexLemmas.{func_room}
use Rattle.wc_gc.proofs.new_indices.NewIndices.func.Goals as goal

pub added_func-requires : goal.added_func-requires
added_func-requires c =
    func_room c.args.self.now c.args.index (let e : c.args.self.now.counts.funcs ≤ c.args.index = omega arith in e) (let e : c.args.index < 2 ^ 32 = omega arith in e)
