use Rattle.std.proofs.Common.{◌≡◌, map, take}
use Rattle.wc_why.specs.Private.PathTree.{item_in}
use Rattle.wc_why.proofs.path_tree.items_of.Given as goal

abbrev pub invariant-loop-position : goal.invariant-loop-position
invariant-loop-position l = l.items.items ≡ map (item_in l.numbers l.order) (take l.position-index l.positions)
