use Rattle.wc_validate.proofs.ArgumentLemmas.{arguments_next}
use Rattle.wc_validate.proofs.imports.arguments.arguments_by_module.Goals as goal

pub loop-argument-preserved : goal.loop-argument-preserved
loop-argument-preserved c =
    arguments_next c.args.arguments.now c.loop-argument.argument-index c.argument-item.result _ c.as_str.result.now c.loop-argument-test.true c.argument-item.is
    c.as_str.ensures.value
    (c.in_ok-add_argument.ensures _ c.loop-argument.invariant)
