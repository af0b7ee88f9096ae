use Rattle.std.proofs.Common.{◌≡◌, ◌++◌, map, drop}
use Rattle.wc_read.specs.Imports.{import_value}
use Rattle.wc_read.specs.Items.{item_value}
use Rattle.wc_read.specs.Spaces.{imported_items, local_item}
use Rattle.wc_read.proofs.spaces.declared.Given as goal

abbrev pub invariant-loop-ty : goal.invariant-loop-ty
invariant-loop-ty g l = map (item_value (λ _. tt)) l.items.items ++ map local_item (drop l.ty-index l.types) ≡ imported_items g.T.ItemType.of (map import_value l.fn.imports) ++ map local_item l.fn.types
