use Rattle.std.proofs.Common.{List, map}
use Rattle.wc_import_paths.specs.Joined.{AreJoined}
use Rattle.wc_module_ways.specs.Adapters.{IsPartAt, adapter_view, given_view}
use Rattle.wc_module_ways.specs.NameLists.{AreListed}
use Rattle.wc_module_ways.specs.Names.{NamePair}
use Rattle.wc_module_ways.proofs.adapters.read_adapters.Given as goal

abbrev pub invariant-loop-index : goal.invariant-loop-index
invariant-loop-index l =
    (imported asked : List NamePair) → AreListed imported l.wanted.imported.now.entries → AreListed asked l.wanted.asked.now.entries
    → AreJoined l.index (IsPartAt imported asked (map given_view l.given)) (map adapter_view l.adapters.items)
