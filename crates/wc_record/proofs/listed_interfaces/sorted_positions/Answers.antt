use Rattle.wc_record.proofs.ListedInterfaceLemmas.{positions_are}
use Rattle.wc_record.proofs.listed_interfaces.sorted_positions.Goals as goal

pub returns : goal.returns
returns c ids are =
    positions_are ids c.args.positions.now.entries c.args.set.now.keys c.in_ok-found.found.items c.sort_unstable.new.self.items c.dedup.new.self.items are
    c.in_ok-found.ensures c.sort_unstable.ensures.permutation c.sort_unstable.ensures.sorted c.dedup.ensures.filtered
