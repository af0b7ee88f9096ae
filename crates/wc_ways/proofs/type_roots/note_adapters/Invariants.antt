use Rattle.std.proofs.Common.{map}
use Rattle.wc_adapters.specs.Entries.{entries_of}
use Rattle.wc_world.specs.WorldViews.{adapter_entry}
use Rattle.wc_ways.specs.Private.Needs.{noted_in}
use Rattle.wc_ways.specs.TypeRoots.{adapter_needs}
use Rattle.wc_ways.proofs.NeedLemmas.{NeedsWalk}
use Rattle.wc_ways.proofs.type_roots.note_adapters.Given as goal

abbrev pub invariant-loop-name : goal.invariant-loop-name
invariant-loop-name l =
    NeedsWalk l.lists.resolve.now (adapter_needs l.lists.resolve.now (entries_of l.lists.imports.now)) (map adapter_entry l.adapters.entries)
    (map adapter_entry l.name-iterator) (noted_in l.fn.found) (noted_in l.found)
