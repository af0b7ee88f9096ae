use Rattle.std.proofs.Common.{◌≡◌, ◌++◌, map, drop}
use Rattle.wc_read.specs.Imports.{import_value}
use Rattle.wc_read.specs.Items.{item_value}
use Rattle.wc_read.specs.Spaces.{imported_items}
use Rattle.wc_read.proofs.spaces.imported.Given as goal

abbrev pub invariant-loop-import : goal.invariant-loop-import
invariant-loop-import g l = map (item_value g.C.Content.view) l.items.items ++ imported_items g.T.ItemType.of (map import_value (drop l.import-index l.imports)) ≡ imported_items g.T.ItemType.of (map import_value l.fn.imports)
