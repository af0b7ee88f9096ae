use Rattle.std.proofs.Common.{ap}
use Rattle.wc_record.proofs.ListedInterfaceLemmas.{found_under}
use Rattle.wc_record.proofs.UsedLemmas.{gathered_end, gathered_next}
use Rattle.wc_record.proofs.listed_interfaces.listed_positions.Goals as goal

pub loop-id-preserved : goal.loop-id-preserved
loop-id-preserved c =
    let give = found_under c.args.positions.now.entries in
    gathered_next give c.args.set.now.keys c.loop-id.id-iterator c.next.new.self _ c.loop-id.found.items c.add_listed.new.found.items
    (ap give c.in-Some.ensures.steps) c.in_ok-add_listed.ensures c.loop-id.invariant

pub returns : goal.returns
returns c =
    let give = found_under c.args.positions.now.entries in
    gathered_end give c.args.set.now.keys c.loop-id.id-iterator c.loop-id.found.items (ap give c.in-None.ensures.steps.0) c.loop-id.invariant
