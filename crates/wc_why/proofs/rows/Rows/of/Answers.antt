use Rattle.std.proofs.Common.{◌≡◌, ◌++◌, ◌∷◌, [], length, refl, rules}
use Rattle.wc_why.proofs.RowLemmas.{rows_more}
use Rattle.wc_why.proofs.rows.Rows.of.Goals as goal

pub loop-item-preserved : goal.loop-item-preserved
loop-item-preserved g c =
    let begins : c.push-in-loop-item.new.self.items ≡ c.loop-item.starts.items ++ length c.put_names.new.out.items ∷ [] = search rules in
    rows_more (g.G.Graph.size c.args.graph.now) (g.G.Graph.names c.args.graph.now) (g.G.Graph.is_closed c.args.graph.now) c.loop-item.starts.items
    c.loop-item.names.items c.loop-item.closed.items c.loop-item.item c.loop-item.invariant (g.G.Graph.names c.args.graph.now c.loop-item.item)
    c.put_names.new.out.items c.push-in-loop-item.new.self.items c.push-in-loop-item-2.new.self.items c.in_ok-is_closed.is_closed refl
    c.in_ok-is_closed.ensures.names begins c.in_ok-push-3.ensures.items c.in_ok-is_closed.ensures.closed (c.in_ok-is_closed.ensures.below refl)
