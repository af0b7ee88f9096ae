use Rattle.std.proofs.Common.{◌<◌, length, arith}
use Rattle.wc_read.specs.Decoded.{decoded_module}
use Rattle.wc_gc.proofs.ReachLemmas.{types_more}
use Rattle.wc_gc.proofs.search.Search.reach_types.Goals as goal

pub loop-ty-preserved : goal.loop-ty-preserved
loop-ty-preserved g c =
    let within : c.loop-ty.ty-index < length c.args.types.now = omega arith in
    types_more g.L.LiveSet.has (decoded_module c.args.adapter.now) c.args.types.now c.loop-ty.ty-index _ c.args.self.now
    c.loop-ty.self c.reach_type.new.self c.loop-ty.there c.in_ok-there.field-0 within
    c.loop-ty.invariant c.in_ok-there.ensures.found c.in_ok-there.ensures.there
