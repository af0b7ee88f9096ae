use Rattle.wc_module_ways.proofs.ModuleLemmas.{names_next}
use Rattle.wc_module_ways.proofs.modules.adapter_names.Goals as goal

pub loop-adapter-preserved : goal.loop-adapter-preserved
loop-adapter-preserved c =
    names_next c.args.adapters.now c.loop-adapter.adapter-index _ c.loop-adapter.names.keys c.insert.new.self.keys c.loop-adapter-test.true
    c.in_ok-insert.ensures.updates.0 c.loop-adapter.invariant
