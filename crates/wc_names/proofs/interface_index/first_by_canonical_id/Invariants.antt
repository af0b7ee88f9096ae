use Rattle.std.proofs.Common.{ℕ, List, map}
use Rattle.std.specs.Map.{lookup}
use Rattle.std.specs.Option.{option_map}
use Rattle.wc_resolve.specs.Views.{world_entry}
use Rattle.wc_names.specs.InterfaceIndex.{is_text}
use Rattle.wc_names.specs.Views.{keyed_view}
use Rattle.wc_names.specs.Interfaces.{IsCanonicalEntry}
use Rattle.wc_names.proofs.InterfaceIndexLemmas.{KeepsPassed}
use Rattle.wc_names.proofs.interface_index.first_by_canonical_id.Given as goal

abbrev pub invariant-loop-key : goal.invariant-loop-key
invariant-loop-key l =
    KeepsPassed (IsCanonicalEntry l.resolve) (map world_entry l.items.entries) (map world_entry l.key-iterator)
    (λ (t : List ℕ). option_map keyed_view (lookup (is_text t) l.first.entries))
