use Rattle.std.proofs.Common.{◌≡◌, ◌++◌, map, drop}
use Rattle.wc_read.specs.Items.{item_value}
use Rattle.wc_write.specs.Spaces.{defined, defined_value}
use Rattle.wc_write.proofs.spaces.defined_items.Given as goal

abbrev pub invariant-loop-item : goal.invariant-loop-item
invariant-loop-item g l = map (defined_value (λ x. x)) l.defined_items.items ++ defined (map (item_value (λ x. x)) (drop l.item-index l.items)) ≡ defined (map (item_value (λ x. x)) l.fn.items)
