use Rattle.std.proofs.Common.{sym}
use Rattle.wc_gc.proofs.ReachLemmas.{finds_old}
use Rattle.wc_gc.proofs.search.Search.reach_again.Goals as goal

pub returns-then-contains : goal.returns-then-contains
returns-then-contains g c = finds_old g.L.LiveSet.has c.args.self.now c.args.item (sym c.if-contains.ensures)
