use Rattle.wc_why_text.proofs.WayLemmas.{chosen_more}
use Rattle.wc_why_text.proofs.ways.chosen_ways.Goals as goal

pub loop-way-preserved : goal.loop-way-preserved
loop-way-preserved c =
    chosen_more c.args.imports c.args.ways.now c.loop-way.way-index _ c.loop-way.chosen.items c.put_chosen.new.chosen.items c.loop-way-test.true
    c.loop-way.invariant c.in_ok-put_chosen.ensures
