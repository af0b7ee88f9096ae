use Rattle.std.proofs.Common.{ℕ, List, drop, map}
use Rattle.std.specs.Map.{lookup}
use Rattle.std.specs.Option.{option_map}
use Rattle.wc_resolve.specs.Roots.{id_index}
use Rattle.wc_names.specs.ExportIndex.{exported_interface_view}
use Rattle.wc_names.specs.ExportNames.{HasResource}
use Rattle.wc_names.specs.InterfaceIndex.{is_text}
use Rattle.wc_names.proofs.InterfaceIndexLemmas.{KeepsPassed}
use Rattle.wc_names.proofs.first_members.first_resources.Given as goal

abbrev pub invariant-loop-exported : goal.invariant-loop-exported
invariant-loop-exported l =
    KeepsPassed (HasResource l.resolve) (map exported_interface_view l.interfaces) (map exported_interface_view (drop l.exported-index l.interfaces))
    (λ (t : List ℕ). option_map id_index (lookup (is_text t) l.kept.entries))
