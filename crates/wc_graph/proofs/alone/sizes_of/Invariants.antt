use Rattle.std.proofs.Common.{◌≡◌, ℕ, map, take}
use Rattle.wc_graph.specs.Private.Alone.{alone_among}
use Rattle.wc_graph.proofs.alone.sizes_of.Given as goal

abbrev pub invariant-loop-item : goal.invariant-loop-item
invariant-loop-item l = l.sizes.items ≡ map (λ (i : ℕ × ℕ). i.1) (alone_among l.words l.bit (take l.item-index l.items))
