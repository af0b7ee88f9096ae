use Rattle.std.proofs.Common.{◌-◌, length, subst, take}
use Rattle.wc_graph.specs.Tree.{ArePlaces}
use Rattle.wc_graph.proofs.StopLemmas.{positions_are}
use Rattle.wc_graph.proofs.WayLemmas.{way_at}
use Rattle.wc_graph.proofs.fronts.way_positions.Goals as goal

pub returns : goal.returns
returns g c = λ roots w.
    let names = g.G.Graph.names c.args.graph.now in
    let way = c.args.way.now in
    let size = g.G.Graph.size c.args.graph.now in
    let places = c.in_ok-positions.positions.items in
    positions_are names roots c.args.targets.now way size places c.stop_at.new.positions.items (way_at names roots c.args.targets.now way w) c.requires.there
    (subst (λ n. ArePlaces (take (length way - 1) way) n places) c.len.ensures c.in_ok-positions.ensures) c.stop_at.ensures
