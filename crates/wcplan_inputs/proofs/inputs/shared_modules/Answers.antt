use Rattle.std.proofs.Common.{◌∙◌, ap, map}
use Rattle.std.proofs.lemmas.Result.{err_from_is_err_and}
use Rattle.wc_selection.specs.Keys.{named_key}
use Rattle.wc_selection.specs.Requests.{request_value}
use Rattle.wc_maps.specs.Texts.{text_pair}
use Rattle.wcplan_inputs.specs.Private.SharedKeys.{adapters_request, exported_scope, file_bytes, own_pair}
use Rattle.wcplan_inputs.proofs.InputLemmas.{shared_made}
use Rattle.wcplan_inputs.proofs.inputs.shared_modules.Goals as goal

pub returns-in_err-given-clause-fault : goal.returns-in_err-given-clause-fault
returns-in_err-given-clause-fault c =
    let p = err_from_is_err_and c.from_residual.result c.from_residual.ensures.1 in
    rw (p.1, p.2) (rw c.deref.ensures.value at c.in_err-given.ensures.fault)

pub returns-clause-shared : goal.returns-clause-shared
returns-clause-shared c =
    shared_made (exported_scope c.args.world) c.args.main.now (map file_bytes c.args.adapters.items) (map named_key c.args.world.keys.now)
    (map own_pair c.in_ok-given.given.items) (request_value c.adapter_request-request.result) c.in_ok-modules_with.field-0
    (rw c.deref.ensures.value at c.in_ok-given.ensures.shared)
    (c.adapter_request-request.ensures
    ∙ ap adapters_request (ap (map text_pair) c.deref-3.ensures.value ∙ c.in_ok-pairs.ensures ∙ ap (map own_pair) c.deref-2.ensures.value))
    c.in_ok-modules_with.ensures.exports c.in_ok-modules_with.ensures.adapters
