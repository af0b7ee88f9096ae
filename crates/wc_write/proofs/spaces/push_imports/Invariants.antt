use Rattle.std.proofs.Common.{◌≡◌, ◌++◌, map, drop}
use Rattle.wc_read.specs.Imports.{import_value}
use Rattle.wc_read.specs.Items.{item_value}
use Rattle.wc_write.specs.Spaces.{imports_of}
use Rattle.wc_write.proofs.spaces.push_imports.Given as goal

abbrev pub invariant-loop-item : goal.invariant-loop-item
invariant-loop-item g l = map import_value l.imports.items ++ imports_of g.T.Importable.kind (map (item_value (λ x. x)) (drop l.item-index l.items)) ≡ map import_value l.fn.imports.items ++ imports_of g.T.Importable.kind (map (item_value (λ x. x)) l.fn.items)
