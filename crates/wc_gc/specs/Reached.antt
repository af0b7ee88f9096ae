-- The items that exports reach.
use Rattle.std.specs.Prelude.{List, map}
use Rattle.wc_read.specs.Exports.{ExportValue}
use Rattle.wc_read.specs.Decoded.{DecodedModule, ItemIndex, exported_item}
use Rattle.wc_read.specs.Entries.{refs_in}
use Rattle.wc_graph.specs.Reached.{IsReachedFrom}

-- an item to which a path leads from the item of one of these exports
abbrev pub IsReached : DecodedModule → List ExportValue → ItemIndex → Type 0
IsReached m exports x = IsReachedFrom (refs_in m) (map exported_item exports) x
