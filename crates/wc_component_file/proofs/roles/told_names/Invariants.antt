use Rattle.std.proofs.Common.{◌≡◌, map, take}
use Rattle.wc_maps.specs.Texts.{text_of}
use Rattle.wc_component_file.specs.Roles.{told_names}
use Rattle.wc_component_file.specs.Told.{told_view}
use Rattle.wc_component_file.proofs.roles.told_names.Given as goal

abbrev pub invariant-loop-one : goal.invariant-loop-one
invariant-loop-one l = map text_of l.names.items ≡ told_names (map told_view (take l.one-index l.told))
