use Rattle.std.proofs.Common.{ℕ, map}
use Rattle.std.specs.Map.{lookup}
use Rattle.std.specs.Option.{option_map}
use Rattle.wc_resolve.specs.Views.{world_entry}
use Rattle.wc_names.specs.InterfaceIndex.{IsCloneEntry, is_index}
use Rattle.wc_names.specs.Interfaces.{under_own_key}
use Rattle.wc_names.proofs.InterfaceIndexLemmas.{KeepsPassed}
use Rattle.wc_names.proofs.interface_index.first_clones.Given as goal

abbrev pub invariant-loop-key : goal.invariant-loop-key
invariant-loop-key l =
    KeepsPassed (IsCloneEntry l.resolve) (map world_entry l.items.entries) (map world_entry l.key-iterator)
    (λ (t : ℕ). option_map under_own_key (lookup (is_index t) l.first.entries))
