use Rattle.std.proofs.Common.{◌≡◌, map, take}
use Rattle.wc_maps.specs.Texts.{text_of}
use Rattle.wc_component_file.specs.Roles.{adapter_names}
use Rattle.wc_component_file.specs.Told.{role_view}
use Rattle.wc_component_file.proofs.roles.adapter_names.Given as goal

abbrev pub invariant-loop-role : goal.invariant-loop-role
invariant-loop-role l = map text_of l.names.items ≡ adapter_names (map role_view (take l.role-index l.roles))
