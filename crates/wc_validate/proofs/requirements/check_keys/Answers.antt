use Rattle.std.proofs.Common.{[], map}
use Rattle.wc_resolve.specs.Views.{key_view, world_entry}
use Rattle.wc_validate.specs.Explain.{IsKeyPlace}
use Rattle.wc_validate.specs.Refused.{IsMemoryRefusal, IsRefusedAt, RefusedModule}
use Rattle.wc_validate.specs.Requirements.{IsUnmetFault, key_requirements}
use Rattle.wc_validate.proofs.MissingLemmas.{key_refused, keys_failed}
use Rattle.wc_validate.proofs.RefusedLemmas.{failed_on}
use Rattle.wc_validate.proofs.requirements.check_keys.Goals as goal

pub returns-in_ok-key_refusal-in-Err-clause-refused : goal.returns-in_ok-key_refusal-in-Err-clause-refused
returns-in_ok-key_refusal-in-Err-clause-refused c = λ xs recorded same.
    let lack = c.in-Err.ensures.lacking xs recorded same in
    key_refused c.args.names.now.resolve.now xs recorded (map world_entry c.args.names.now.world.now.exports.entries) (map key_view c.args.keys.now.keys)
    (key_view c.in-Err.lacking.key.now) c.in-Err.lacking.fault c.in_ok-key_refusal-in-Err.field-0 c.in_ok-key_refusal-in-Err.ensures.fault lack
    (c.in_ok-key_refusal-in-Err.ensures.place xs recorded (map key_view c.args.keys.now.keys) same lack)

pub returns-in_err-key_refusal-in-Err-clause-refused : goal.returns-in_err-key_refusal-in-Err-clause-refused
returns-in_err-key_refusal-in-Err-clause-refused c = λ xs recorded same.
    let r = c.args.names.now.resolve.now in
    let exports = map world_entry c.args.names.now.world.now.exports.entries in
    let keys = map key_view c.args.keys.now.keys in
    failed_on IsMemoryRefusal (λ (x : RefusedModule). IsUnmetFault r xs recorded (key_requirements exports keys) x.fault
    × IsRefusedAt (IsKeyPlace r xs recorded exports keys) x) _ (keys_failed r xs recorded exports keys) c.from_residual.ensures.1

pub key_refusal-requires-clause-stopped : goal.key_refusal-requires-clause-stopped
key_refusal-requires-clause-stopped c =
    let recorded = c.requires.recorded in
    ([], recorded.0, map key_view c.args.keys.now.keys, recorded.1, c.in-Err.ensures.lacking [] recorded.0 recorded.1)
