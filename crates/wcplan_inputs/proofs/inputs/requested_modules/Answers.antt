use Rattle.std.proofs.Common.{◌∙◌, map, sym}
use Rattle.wc_selection.specs.Keys.{named_key}
use Rattle.wc_selection.specs.Requests.{request_value}
use Rattle.wcplan_inputs.specs.Arguments.{command_view}
use Rattle.wcplan_inputs.specs.Private.Inputs.{scope_in}
use Rattle.wcplan_inputs.specs.Private.SharedKeys.{file_bytes}
use Rattle.wcplan_inputs.proofs.InputLemmas.{requested_closed, requested_open}
use Rattle.wcplan_inputs.proofs.SharedKeyLemmas.{unshared_open}
use Rattle.wcplan_inputs.proofs.inputs.requested_modules.Goals as goal

pub returns-then-is_open-clause-requested : goal.returns-then-is_open-clause-requested
returns-then-is_open-clause-requested c =
    let command = command_view c.args.command.now in
    requested_open command (scope_in command c.args.chosen.now) c.args.files.main.now (map file_bytes c.args.files.adapters.items)
    (map named_key c.args.chosen.now.keys.items) c.shared_modules.result (sym c.is_open.ensures ∙ c.if-is_open.true)
    (rw (c.exported_world-world.ensures.scope, c.exported_world-world.ensures.keys) at c.shared_modules.ensures.shared)

pub returns-then-is_open-clause-fault : goal.returns-then-is_open-clause-fault
returns-then-is_open-clause-fault c =
    let command = command_view c.args.command.now in
    unshared_open command (scope_in command c.args.chosen.now) c.args.files.main.now (map file_bytes c.args.files.adapters.items)
    (map named_key c.args.chosen.now.keys.items) c.shared_modules.result (sym c.is_open.ensures ∙ c.if-is_open.true)
    (rw (c.exported_world-world.ensures.scope, c.exported_world-world.ensures.keys) at c.shared_modules.ensures.fault)

pub returns-in_ok-modules_with-clause-requested : goal.returns-in_ok-modules_with-clause-requested
returns-in_ok-modules_with-clause-requested c =
    let command = command_view c.args.command.now in
    requested_closed command (scope_in command c.args.chosen.now) c.args.files.main.now (map file_bytes c.args.files.adapters.items)
    (map named_key c.args.chosen.now.keys.items) (request_value c.key_request-request.result) c.in_ok-modules_with.field-0
    (sym c.is_open.ensures ∙ c.if-is_open.false) c.key_request-request.ensures (rw c.deref.ensures.value at c.in_ok-modules_with.ensures.exports)
    (rw c.deref.ensures.value at c.in_ok-modules_with.ensures.adapters)
