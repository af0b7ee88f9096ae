use Rattle.std.proofs.Common.{map}
use Rattle.wc_resolve.specs.Views.{world_entry, package_name_view}
use Rattle.wc_names.specs.Interfaces.{IsEntryOf, IsOnTrack}
use Rattle.wc_names.proofs.SearchLemmas.{IsFirstInRest}
use Rattle.wc_names.proofs.interfaces.first_of_track.Given as goal

abbrev pub invariant-loop-key : goal.invariant-loop-key
invariant-loop-key l =
    IsFirstInRest (IsEntryOf (IsOnTrack l.resolve (package_name_view l.id.«package») l.id.interface.now)) (map world_entry l.items.entries)
    (map world_entry l.key-iterator)
