use Rattle.std.proofs.Common.{map, refl}
use Rattle.wc_selection.specs.Keys.{named_key}
use Rattle.wcplan_inputs.specs.Arguments.{command_view}
use Rattle.wcplan_inputs.proofs.InputLemmas.{parts_made}
use Rattle.wcplan_inputs.proofs.inputs.read_parts.Goals as goal

pub returns-in-Ok-clause-parts : goal.returns-in-Ok-clause-parts
returns-in-Ok-clause-parts g c =
    let are = c.in-Ok.ensures.modules in
    parts_made (command_view c.args.command.now) (g.F.FileStore.held c.args.files.now) (map named_key c.args.chosen.keys.items) _ are.files
    c.in-Ok.modules.requested are.main_read are.adapters_read are.requested refl refl refl refl are.hook
