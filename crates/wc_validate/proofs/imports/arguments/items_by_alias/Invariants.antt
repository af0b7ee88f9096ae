use Rattle.std.proofs.Common.{map, take}
use Rattle.wc_adapters.specs.Adapters.{library_item_view}
use Rattle.wc_validate.specs.Private.Imports.Arguments.{IsIndexOf, item_entry_of}
use Rattle.wc_validate.specs.Imports.Record.{alias_entry}
use Rattle.wc_validate.proofs.imports.arguments.items_by_alias.Given as goal

abbrev pub invariant-loop-item : goal.invariant-loop-item
invariant-loop-item l = IsIndexOf (map item_entry_of l.index.entries) (map alias_entry (map library_item_view (take l.item-index l.items)))
