use Rattle.std.proofs.Common.{map, take}
use Rattle.std.specs.Option.{option_map}
use Rattle.wc_read.specs.Names.{name_entries}
use Rattle.wc_why.specs.Component.{IsLaid}
use Rattle.wc_why.specs.Private.Modules.{shown_view}
use Rattle.wc_why.specs.Texts.{text_of}
use Rattle.wc_why.specs.Tree.{tree_module_view}
use Rattle.wc_why.proofs.layout.laid_out.Given as goal

abbrev pub invariant-loop-item : goal.invariant-loop-item
invariant-loop-item l = IsLaid (name_entries l.fn.names) (option_map text_of l.fn.adapter) (map shown_view (take l.item-index l.items)) (tree_module_view l.«module»)
