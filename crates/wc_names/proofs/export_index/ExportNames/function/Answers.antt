use Rattle.std.proofs.Common.{map, Some}
use Rattle.std.specs.Option.{option_map}
use Rattle.wc_resolve.specs.Views.{key_view, world_entry}
use Rattle.wc_names.specs.ExportViews.{export_target}
use Rattle.wc_names.proofs.ExportNameLemmas.{function_named, world_function_named}
use Rattle.wc_names.proofs.export_index.ExportNames.function.Goals as goal

pub returns-in-Some-interface : goal.returns-in-Some-interface
returns-in-Some-interface c =
    rw (← c.self.view_is) (function_named c.self.inside.syntax c.self.inside.resolve.now (map world_entry c.self.inside.exports.now.entries)
    (map key_view c.self.inside.keys.now.keys) c.args.name.now
    (Some c.in-Some-interface.text.now) c.in-Some.parts.member.now (option_map export_target c.function_of_text.result)
    (rw c.in-Some-interface.is at c.in-Some.ensures) (rw (← c.self.view_is) at c.function_of_text.ensures))

pub returns-in-None : goal.returns-in-None
returns-in-None c =
    rw (← c.self.view_is) (world_function_named export_target c.self.inside.syntax c.self.inside.resolve.now
    (map world_entry c.self.inside.exports.now.entries) (map key_view c.self.inside.keys.now.keys) c.args.name.now
    c.in-Some.parts.member.now c.world_function.result (rw c.in-None.is at c.in-Some.ensures) c.world_function.ensures)
