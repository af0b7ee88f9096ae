use Rattle.std.proofs.Common.{map, subst}
use Rattle.wc_selection.specs.Keys.{named_key, texts_of}
use Rattle.wc_selection.specs.Requests.{given_keys}
use Rattle.wc_selection.specs.ModuleKeys.{AreKeysThere, IsKeysCause}
use Rattle.wcplan_inputs.specs.Arguments.{command_view}
use Rattle.wcplan_inputs.specs.ModuleKeys.{request_of}
use Rattle.wcplan_inputs.proofs.NamesLemmas.{request_cause}
use Rattle.wcplan_inputs.proofs.module_keys.check_keys.Goals as goal

pub returns-in-Ok-clause-there : goal.returns-in-Ok-clause-there
returns-in-Ok-clause-there c =
    subst (λ q. AreKeysThere (given_keys q) (texts_of (map named_key c.args.keys.now))) c.key_request-request.ensures c.in-Ok.ensures.there

pub returns-in-Err-clause-fault : goal.returns-in-Err-clause-fault
returns-in-Err-clause-fault c =
    let keys = map named_key c.args.keys.now in
    rw c.from.ensures (request_cause (given_keys (request_of (command_view c.args.command.now))) keys c.in-Err.fault
    (subst (λ q. IsKeysCause (given_keys q) keys keys c.in-Err.fault) c.key_request-request.ensures c.in-Err.ensures.fault))
