use Rattle.std.proofs.Common.{List, map, take}
use Rattle.wc_read.specs.Imports.{ImportValue}
use Rattle.wc_why.specs.Part.{part_view}
use Rattle.wc_module_ways.specs.CoreModules.{core_view}
use Rattle.wc_module_ways.specs.NameLists.{AreListed}
use Rattle.wc_module_ways.specs.Names.{function_pairs}
use Rattle.wc_module_ways.specs.Private.CoreParts.{PutsCoreParts}
use Rattle.wc_module_ways.proofs.core_parts.push_core_parts.Given as goal

abbrev pub invariant-loop-index : goal.invariant-loop-index
invariant-loop-index l =
    (imports : List ImportValue) → AreListed (function_pairs imports) l.functions.entries
    → PutsCoreParts imports (map core_view (take l.index l.core)) (map part_view l.fn.parts.items) (map part_view l.parts.items)
