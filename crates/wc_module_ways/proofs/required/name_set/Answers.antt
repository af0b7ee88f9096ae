use Rattle.wc_module_ways.proofs.RequiredLemmas.{set_next}
use Rattle.wc_module_ways.proofs.required.name_set.Goals as goal

pub loop-name-preserved : goal.loop-name-preserved
loop-name-preserved c =
    set_next c.loop-name.set.keys _ c.args.names.now c.loop-name.name-index _ _ c.loop-name-test.true c.in_ok-from_str.ensures.ok c.loop-name.invariant
    c.in_ok-insert.ensures.keys
