use Rattle.wc_module_ways.specs.CoreParts.{linked_name}
use Rattle.wc_module_ways.proofs.CorePartLemmas.{linked_more}
use Rattle.wc_module_ways.proofs.core_parts.linked_among.Goals as goal

pub loop-name-preserved : goal.loop-name-preserved
loop-name-preserved c names has =
    linked_more (linked_name names) c.args.imported.now c.loop-name.name-index _ _ c.loop-name.linked.keys c.insert.new.self.keys c.loop-name-test.true
    (c.linked_name.ensures names has) (c.loop-name.invariant names has) c.in_ok-insert.ensures.keys
