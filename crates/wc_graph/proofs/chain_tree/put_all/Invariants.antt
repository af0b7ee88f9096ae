use Rattle.std.proofs.Common.{◌≡◌, ℕ, List, [], ◌∷◌, ◌++◌, length}
use Rattle.std.specs.Prelude.{All}
use Rattle.wc_graph.specs.ChainMarks.{IsOnChain}
use Rattle.wc_graph.specs.Private.ChainTree.{IsGrowth, IsNewPart}
use Rattle.wc_graph.proofs.chain_tree.put_all.Given as goal

abbrev pub invariant-loop-position : goal.invariant-loop-position
invariant-loop-position l = record {
  growth : IsGrowth l.finder l.growth;
  order : (more : List ℕ) × (l.growth.order.items ≡ l.fn.growth.order.items ++ more) × All (IsOnChain l.finder (l.target ∷ [])) more;
  left : IsNewPart l.finder l.growth.places.items l.target l.new.items l.after;
}

abbrev pub decreases-loop-position : goal.decreases-loop-position
decreases-loop-position l = length l.new.items
