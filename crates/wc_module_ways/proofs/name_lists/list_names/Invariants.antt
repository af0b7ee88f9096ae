use Rattle.std.proofs.Common.{map, take}
use Rattle.wc_module_ways.specs.NameLists.{AreListed}
use Rattle.wc_module_ways.specs.Names.{pair_view}
use Rattle.wc_module_ways.proofs.name_lists.list_names.Given as goal

abbrev pub invariant-loop-key : goal.invariant-loop-key
invariant-loop-key l = AreListed (map pair_view (take l.key-index l.pairs)) l.lists.entries
