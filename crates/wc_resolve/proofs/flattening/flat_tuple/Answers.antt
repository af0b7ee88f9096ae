use Rattle.std.proofs.Common.{take}
use Rattle.wc_resolve.specs.declared.types.WitType.TheVariants.{Bool}
use Rattle.wc_resolve.specs.Flat.{flat_entry, flat_types_kept, flatten_types, lists}
use Rattle.wc_resolve.proofs.FlatStepLemmas.{types_more, cut_small}
use Rattle.wc_resolve.proofs.flattening.flat_tuple.Goals as goal

pub put_flat-requires : goal.put_flat-requires
put_flat-requires c = cut_small flat_types_kept c.loop-ty.flat.items (flatten_types (flat_entry (lists c.args.flats.now)) (take c.loop-ty.ty-index c.args.types.now)) c.loop-ty.invariant

pub loop-ty-preserved : goal.loop-ty-preserved
loop-ty-preserved c =
    types_more (flat_entry (lists c.args.flats.now)) c.args.types.now c.loop-ty.ty-index Bool c.loop-ty.flat.items c.put_flat.new.flat.items
    c.flatten_type.result.now c.loop-ty-test.true c.loop-ty.invariant c.flatten_type.ensures c.in_ok-put_flat.ensures
