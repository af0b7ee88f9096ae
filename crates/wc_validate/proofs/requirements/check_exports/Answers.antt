use Rattle.std.proofs.Common.{[], ◌∷◌, ◌++◌, map}
use Rattle.wc_validate.specs.Exports.Map.{export_entry}
use Rattle.wc_validate.specs.Exports.Record.{exports_in}
use Rattle.wc_validate.specs.Private.Explain.{IsMissingIn}
use Rattle.wc_validate.specs.Private.Requirements.{IsUnmetBy, requirements_of_functions, requirements_of_keys}
use Rattle.wc_validate.specs.Refused.{IsMemoryRefusal, IsRefusedAt, RefusedModule}
use Rattle.wc_validate.specs.Requirements.{callbacks, one_memory}
use Rattle.wc_validate.proofs.MissingLemmas.{callbacks_place, callbacks_unmet, failed_unmet, functions_place, functions_unmet, keys_place, keys_unmet, memories_place, memories_unmet}
use Rattle.wc_validate.proofs.RefusedLemmas.{failed_on, memory_at, passed_on, refused_by}
use Rattle.wc_validate.proofs.RequirementLemmas.{passed_met}
use Rattle.wc_validate.proofs.requirements.check_exports.Goals as goal

pub returns-in_err-check_memories-clause-fault : goal.returns-in_err-check_memories-clause-fault
returns-in_err-check_memories-clause-fault c =
    let m = c.args.exports.«module».now in
    let xs = exports_in m m.exports.items in
    let es = c.args.exports.recorded.now.entries in
    passed_on (λ (x : RefusedModule). IsUnmetBy c.args.names.now c.args.required m es x.fault) _ _ c.from_residual.ensures.1
    (memories_unmet c.args.names.now c.args.required xs es _ c.in_err-check_memories.ensures.refused)

pub returns-in_err-check_memories-clause-place : goal.returns-in_err-check_memories-clause-place
returns-in_err-check_memories-clause-place c =
    let m = c.args.exports.«module».now in
    let xs = exports_in m m.exports.items in
    let es = c.args.exports.recorded.now.entries in
    passed_on (IsRefusedAt (IsMissingIn c.args.names.now c.args.required c.args.exports)) _ _ c.from_residual.ensures.1
    (memories_place c.args.names.now c.args.required xs es _ c.in_err-check_memories.ensures.refused)

pub returns-in_err-check_callbacks-clause-fault : goal.returns-in_err-check_callbacks-clause-fault
returns-in_err-check_callbacks-clause-fault c =
    let m = c.args.exports.«module».now in
    let xs = exports_in m m.exports.items in
    let es = c.args.exports.recorded.now.entries in
    passed_on (λ (x : RefusedModule). IsUnmetBy c.args.names.now c.args.required m es x.fault) _ _ c.from_residual-in_err-check_callbacks.ensures.1
    (callbacks_unmet c.args.names.now c.args.required xs es _ c.in_ok-check_memories.ensures.met c.in_err-check_callbacks.ensures.refused)

pub returns-in_err-check_callbacks-clause-place : goal.returns-in_err-check_callbacks-clause-place
returns-in_err-check_callbacks-clause-place c =
    let m = c.args.exports.«module».now in
    let xs = exports_in m m.exports.items in
    let es = c.args.exports.recorded.now.entries in
    passed_on (IsRefusedAt (IsMissingIn c.args.names.now c.args.required c.args.exports)) _ _ c.from_residual-in_err-check_callbacks.ensures.1
    (callbacks_place c.args.names.now c.args.required xs es _ c.in_ok-check_memories.ensures.met c.in_err-check_callbacks.ensures.refused)

pub returns-in_err-functions-clause-fault : goal.returns-in_err-functions-clause-fault
returns-in_err-functions-clause-fault c =
    let m = c.args.exports.«module».now in
    let xs = exports_in m m.exports.items in
    let es = c.args.exports.recorded.now.entries in
    failed_on IsMemoryRefusal (λ (x : RefusedModule). IsUnmetBy c.args.names.now c.args.required m es x.fault) _
    (λ x h. failed_unmet c.args.names.now c.args.required xs es x h) c.from_residual-in_err-functions.ensures.1

pub returns-in_err-functions-clause-place : goal.returns-in_err-functions-clause-place
returns-in_err-functions-clause-place c =
    let P = IsMissingIn c.args.names.now c.args.required c.args.exports in
    failed_on IsMemoryRefusal (IsRefusedAt P) _ (memory_at P) c.from_residual-in_err-functions.ensures.1

pub returns-in_err-check_keys-clause-fault : goal.returns-in_err-check_keys-clause-fault
returns-in_err-check_keys-clause-fault c =
    let m = c.args.exports.«module».now in
    let xs = exports_in m m.exports.items in
    let es = c.args.exports.recorded.now.entries in
    passed_on (λ (x : RefusedModule). IsUnmetBy c.args.names.now c.args.required m es x.fault) _ _ c.from_residual-in_err-check_keys.ensures.1
    (keys_unmet c.args.names.now c.args.required xs es _ (c.in_ok-check_memories.ensures.met, (c.in_ok-check_callbacks.ensures.met, tt))
    (c.in_err-check_keys.ensures.refused xs (map export_entry es) c.in_ok-functions.ensures))

pub returns-in_err-check_keys-clause-place : goal.returns-in_err-check_keys-clause-place
returns-in_err-check_keys-clause-place c =
    let m = c.args.exports.«module».now in
    let xs = exports_in m m.exports.items in
    let es = c.args.exports.recorded.now.entries in
    passed_on (IsRefusedAt (IsMissingIn c.args.names.now c.args.required c.args.exports)) _ _ c.from_residual-in_err-check_keys.ensures.1
    (keys_place c.args.names.now c.args.required xs es _ (c.in_ok-check_memories.ensures.met, (c.in_ok-check_callbacks.ensures.met, tt))
    (c.in_err-check_keys.ensures.refused xs (map export_entry es) c.in_ok-functions.ensures))

pub returns-clause-met : goal.returns-clause-met
returns-clause-met c =
    let m = c.args.exports.«module».now in
    let xs = exports_in m m.exports.items in
    let es = c.args.exports.recorded.now.entries in
    let r = c.args.names.now.resolve.now in
    let keys = requirements_of_keys c.args.names.now.world.now.exports.entries c.args.required.keys.now.keys in
    let functions = requirements_of_functions c.args.required.functions.now.entries in
    passed_met r xs (map export_entry es) (one_memory ∷ callbacks ∷ []) (keys ++ functions) _ (c.in_ok-check_memories.ensures.met, (c.in_ok-check_callbacks.ensures.met, tt))
    (passed_met r xs (map export_entry es) keys functions _ (c.in_ok-check_keys.ensures.met xs (map export_entry es) c.in_ok-functions.ensures)
    (c.check_functions.ensures.met r (map export_entry es)))

pub returns-clause-fault : goal.returns-clause-fault
returns-clause-fault c =
    let m = c.args.exports.«module».now in
    let xs = exports_in m m.exports.items in
    let es = c.args.exports.recorded.now.entries in
    refused_by _ _ _ (λ x h. functions_unmet c.args.names.now c.args.required xs es x (c.in_ok-check_memories.ensures.met, (c.in_ok-check_callbacks.ensures.met, tt))
    (c.in_ok-check_keys.ensures.met xs (map export_entry es) c.in_ok-functions.ensures) h.0)
    (c.check_functions.ensures.refused c.args.names.now.resolve.now (map export_entry es))

pub returns-clause-place : goal.returns-clause-place
returns-clause-place c =
    let m = c.args.exports.«module».now in
    let xs = exports_in m m.exports.items in
    let es = c.args.exports.recorded.now.entries in
    refused_by _ _ _ (λ x h. functions_place c.args.names.now c.args.required xs es x (c.in_ok-check_memories.ensures.met, (c.in_ok-check_callbacks.ensures.met, tt))
    (c.in_ok-check_keys.ensures.met xs (map export_entry es) c.in_ok-functions.ensures) h.1)
    (c.check_functions.ensures.refused c.args.names.now.resolve.now (map export_entry es))
