use Rattle.std.proofs.Common.{map}
use Rattle.wc_resolve.specs.Views.{world_entry}
use Rattle.wc_world.specs.Used.{used_view}
use Rattle.wc_ways.specs.Private.Needs.{noted_in}
use Rattle.wc_ways.specs.TypeRoots.{export_needs}
use Rattle.wc_ways.proofs.NeedLemmas.{NeedsWalk}
use Rattle.wc_ways.proofs.type_roots.note_exports.Given as goal

abbrev pub invariant-loop-key : goal.invariant-loop-key
invariant-loop-key l =
    NeedsWalk l.resolve (export_needs l.resolve (used_view l.used)) (map world_entry l.exports.entries) (map world_entry l.key-iterator) (noted_in l.fn.found)
    (noted_in l.found)
