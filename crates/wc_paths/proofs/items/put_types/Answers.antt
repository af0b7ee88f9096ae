use Rattle.std.proofs.Common.{◌<◌, length, refl, arith}
use Rattle.wc_paths.proofs.NamesLemmas.{appended, types_join, types_parts}
use Rattle.wc_paths.proofs.items.put_types.Goals as goal

pub loop-ty-preserved : goal.loop-ty-preserved
loop-ty-preserved c =
    let within : c.loop-ty.ty-index < length c.args.types.now = omega arith in
    appended types_parts types_join c.args.types.now c.loop-ty.ty-index _ c.args.names.now.items c.loop-ty.names.items c.put_type.new.names.items _ within
    c.loop-ty.invariant c.in_ok-put_type.ensures refl
