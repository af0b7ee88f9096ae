use Rattle.std.proofs.Common.{◌<◌, length, arith, map}
use Rattle.wc_maps.specs.Texts.{text_of}
use Rattle.wc_component_file.specs.Roles.{adapter_name}
use Rattle.wc_component_file.specs.Told.{role_view}
use Rattle.wc_component_file.proofs.PickedLemmas.{found_more}
use Rattle.wc_component_file.proofs.roles.adapter_names.Goals as goal

pub loop-role-preserved : goal.loop-role-preserved
loop-role-preserved c =
    let within : c.loop-role.role-index < length c.args.roles.now = omega arith in
    let put = rw c.adapter_name.ensures at c.in_ok-push_some.ensures in
    found_more role_view c.args.roles.now c.loop-role.role-index _ within adapter_name (map text_of c.loop-role.names.items)
    (map text_of c.push_some.new.names.items) c.loop-role.invariant put
