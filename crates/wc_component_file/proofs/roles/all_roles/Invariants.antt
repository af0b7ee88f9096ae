use Rattle.std.proofs.Common.{map, take}
use Rattle.wc_maps.specs.Texts.{text_pair}
use Rattle.wc_component_file.specs.Roles.{AreServing}
use Rattle.wc_component_file.specs.Told.{role_view, told_view}
use Rattle.wc_component_file.proofs.roles.all_roles.Given as goal

abbrev pub invariant-loop-one : goal.invariant-loop-one
invariant-loop-one l = AreServing (map text_pair l.asked) (map told_view (take l.one-index l.told)) (map role_view l.roles.items)
