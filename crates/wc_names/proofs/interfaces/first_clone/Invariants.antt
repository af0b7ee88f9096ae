use Rattle.std.proofs.Common.{map}
use Rattle.wc_resolve.specs.Views.{world_entry}
use Rattle.wc_names.specs.Interfaces.{IsCloneOf, IsEntryOf}
use Rattle.wc_names.proofs.SearchLemmas.{IsFirstInRest}
use Rattle.wc_names.proofs.interfaces.first_clone.Given as goal

abbrev pub invariant-loop-key : goal.invariant-loop-key
invariant-loop-key l = IsFirstInRest (IsEntryOf (IsCloneOf l.resolve l.source.0)) (map world_entry l.items.entries) (map world_entry l.key-iterator)
