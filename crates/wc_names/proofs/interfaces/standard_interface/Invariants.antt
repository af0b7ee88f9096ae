use Rattle.std.proofs.Common.{map}
use Rattle.wc_resolve.specs.Views.{world_entry}
use Rattle.wc_names.specs.Interfaces.{IsCanonicalEntry}
use Rattle.wc_names.proofs.SearchLemmas.{IsFirstInRest}
use Rattle.wc_names.proofs.interfaces.standard_interface.Given as goal

abbrev pub invariant-loop-key : goal.invariant-loop-key
invariant-loop-key l = IsFirstInRest (IsCanonicalEntry l.resolve l.text) (map world_entry l.items.entries) (map world_entry l.key-iterator)
