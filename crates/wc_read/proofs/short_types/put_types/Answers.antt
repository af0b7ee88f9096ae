use Rattle.std.proofs.Common.{List, subst, arith}
use Rattle.std.proofs.lemmas.List.{take_all}
use Rattle.wc_read.specs.Private.ShortTypes.{IsPut}
use Rattle.wc_read.specs.declared.types.ValType.{ValType}
use Rattle.wc_read.proofs.ShortTypesLemmas.{none_put, put_more}
use Rattle.wc_read.proofs.short_types.put_types.Goals as goal

pub loop-index-init : goal.loop-index-init
loop-index-init c = none_put c.args.from c.args.types.now

pub loop-index-preserved : goal.loop-index-preserved
loop-index-preserved c =
    put_more c.args.from c.loop-index.index c.args.values.now c.args.types.now c.loop-index.types _ c.loop-index.invariant c.loop-index-test.true
    (omega (arith, c.loop-index.invariant.places))

pub returns : goal.returns
returns c = subst (λ (ts : List ValType). IsPut c.args.from ts c.args.types.now c.loop-index.types) (take_all c.loop-index.index c.args.values.now (omega arith)) c.loop-index.invariant
