use Rattle.std.proofs.Common.{ℕ, List, drop, map}
use Rattle.std.specs.Map.{lookup}
use Rattle.std.specs.Option.{option_map}
use Rattle.wc_names.specs.ExportIndex.{exported_interface_view}
use Rattle.wc_names.specs.ExportNames.{HasFunction}
use Rattle.wc_names.specs.ExportViews.{export_target}
use Rattle.wc_names.specs.InterfaceIndex.{is_text}
use Rattle.wc_names.proofs.InterfaceIndexLemmas.{KeepsPassed}
use Rattle.wc_names.proofs.first_members.first_functions.Given as goal

abbrev pub invariant-loop-exported : goal.invariant-loop-exported
invariant-loop-exported l =
    KeepsPassed (HasFunction l.resolve) (map exported_interface_view l.interfaces) (map exported_interface_view (drop l.exported-index l.interfaces))
    (λ (t : List ℕ). option_map export_target (lookup (is_text t) l.kept.entries))
