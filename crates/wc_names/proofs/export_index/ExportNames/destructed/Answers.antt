use Rattle.std.proofs.Common.{map}
use Rattle.std.specs.Option.{option_map}
use Rattle.wc_resolve.specs.Roots.{id_index}
use Rattle.wc_resolve.specs.Views.{key_view, world_entry}
use Rattle.wc_names.proofs.ExportNameLemmas.{destructor_named, no_destructor, not_of_interface}
use Rattle.wc_names.proofs.export_index.ExportNames.destructed.Goals as goal

pub returns-in_default-interface : goal.returns-in_default-interface
returns-in_default-interface c =
    rw (← c.self.view_is) (not_of_interface c.self.inside.syntax c.self.inside.resolve.now (map world_entry c.self.inside.exports.now.entries)
    (map key_view c.self.inside.keys.now.keys) c.args.name.now
    c.in-Some.parts.member.now (rw c.in_default-interface.is at c.in-Some.ensures))

pub returns-in_default-destructed_resource : goal.returns-in_default-destructed_resource
returns-in_default-destructed_resource c =
    rw (← c.self.view_is) (no_destructor c.self.inside.syntax c.self.inside.resolve.now (map world_entry c.self.inside.exports.now.entries)
    (map key_view c.self.inside.keys.now.keys) c.args.name.now
    c.in-Some-interface.text.now c.in-Some.parts.member.now (rw c.in-Some-interface.is at c.in-Some.ensures) c.in_default-destructed_resource.ensures)

pub returns : goal.returns
returns c =
    rw (← c.self.view_is) (destructor_named c.self.inside.syntax c.self.inside.resolve.now (map world_entry c.self.inside.exports.now.entries)
    (map key_view c.self.inside.keys.now.keys) c.args.name.now
    c.in-Some-interface.text.now c.in-Some.parts.member.now c.in-Some-destructed_resource.resource.now (option_map id_index c.resource_of_text.result)
    (rw c.in-Some-interface.is at c.in-Some.ensures) c.in-Some-destructed_resource.ensures (rw (← c.self.view_is) at c.resource_of_text.ensures))
