use Rattle.std.proofs.Common.{map}
use Rattle.wc_resolve.specs.Views.{world_entry}
use Rattle.wc_ways.specs.Private.Needs.{noted_in}
use Rattle.wc_ways.specs.TypeRoots.{own_needs}
use Rattle.wc_ways.proofs.NeedLemmas.{NeedsWalk}
use Rattle.wc_ways.proofs.type_roots.note_own_types.Given as goal

abbrev pub invariant-loop-key : goal.invariant-loop-key
invariant-loop-key l =
    NeedsWalk l.lists.resolve.now (own_needs l.lists.resolve.now) (map world_entry l.lists.imports.now.entries) (map world_entry l.key-iterator)
    (noted_in l.fn.found) (noted_in l.found)
