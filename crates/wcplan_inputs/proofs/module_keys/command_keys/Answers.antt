use Rattle.std.proofs.Common.{◌≡◌, IfOk, map, subst}
use Rattle.wc_selection.specs.KeyNames.{request_keys}
use Rattle.wc_selection.specs.Keys.{named_key}
use Rattle.wcplan_inputs.proofs.module_keys.command_keys.Goals as goal

pub returns-clause-keys : goal.returns-clause-keys
returns-clause-keys c =
    subst (λ q. IfOk c.request_keys.result (λ v. map named_key v.items ≡ request_keys q c.args.resolve.now c.args.world.0)) c.key_request-request.ensures
    c.request_keys.ensures.keys
