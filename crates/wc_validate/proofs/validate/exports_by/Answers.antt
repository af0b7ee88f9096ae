use Rattle.std.proofs.Common.{inl, inr, map, refl, subst, sym}
use Rattle.wc_read.specs.Modules.{module_value}
use Rattle.wc_validate.specs.Exports.Map.{export_entry}
use Rattle.wc_validate.specs.NameScope.{name_scope_of}
use Rattle.wc_validate.specs.Private.Explain.{IsPlaceIn}
use Rattle.wc_validate.specs.Private.ValidationInputs.{HasRefusedExports}
use Rattle.wc_validate.specs.Refused.{IsMemoryRefusal, IsRefusedAt, RefusedModule}
use Rattle.wc_validate.proofs.MissingLemmas.{world_keys}
use Rattle.wc_validate.proofs.RefusedLemmas.{failed_on, memory_at, passed_on, refused_as}
use Rattle.wc_validate.proofs.ValidateLemmas.{exports_cause, exports_record, missing_cause, world_items}
use Rattle.wc_validate.proofs.validate.exports_by.Goals as goal

pub check_exports-requires-clause-world : goal.check_exports-requires-clause-world
check_exports-requires-clause-world c = world_items (name_scope_of c.args.context.now.names) c.well_formedness.ensures c.requires.context.has_world

pub check_exports-requires-clause-named : goal.check_exports-requires-clause-named
check_exports-requires-clause-named c = world_keys (name_scope_of c.args.context.now.names) c.well_formedness.ensures c.requires.context.has_world

pub returns-in_err-names-clause-fault : goal.returns-in_err-names-clause-fault
returns-in_err-names-clause-fault c = λ e has.
    passed_on (λ (x : RefusedModule). HasRefusedExports e c.args.required (module_value c.args.module.now) x.fault) _ _ c.from_residual.ensures.1
    (exports_cause e c.args.required c.args.module.now c.args.context.now has c.requires.keys c.args.module.now.exports.items refl _
    c.in_err-names.ensures.refused.0)

pub returns-in_err-names-clause-place : goal.returns-in_err-names-clause-place
returns-in_err-names-clause-place c =
    let P = IsPlaceIn c.args.context.now c.args.required c.args.module.now in
    passed_on (IsRefusedAt P) _ _ c.from_residual.ensures.1 (refused_as _ P _ (λ f p h. inl h) c.in_err-names.ensures.refused.1)

pub returns-in_err-check_exports-clause-fault : goal.returns-in_err-check_exports-clause-fault
returns-in_err-check_exports-clause-fault c = λ e has.
    passed_on (λ (x : RefusedModule). HasRefusedExports e c.args.required (module_value c.args.module.now) x.fault) _ _
    c.from_residual-in_err-check_exports.ensures.1
    (missing_cause e c.args.required c.args.module.now c.args.context.now has c.requires.keys
    c.in_ok-names.names.entries c.args.module.now.exports.items refl c.in_ok-names.ensures.recorded _ c.in_err-check_exports.ensures.fault)

pub returns-in_err-check_exports-clause-place : goal.returns-in_err-check_exports-clause-place
returns-in_err-check_exports-clause-place c =
    let P = IsPlaceIn c.args.context.now c.args.required c.args.module.now in
    passed_on (IsRefusedAt P) _ _ c.from_residual-in_err-check_exports.ensures.1
    (refused_as _ P _ (λ f p h. inr (map export_entry c.in_ok-names.names.entries, c.in_ok-names.ensures.recorded, h)) c.in_err-check_exports.ensures.place)

pub returns-in_err-from_names-clause-fault : goal.returns-in_err-from_names-clause-fault
returns-in_err-from_names-clause-fault c = λ e has.
    failed_on IsMemoryRefusal (λ (x : RefusedModule). HasRefusedExports e c.args.required (module_value c.args.module.now) x.fault) _
    (λ x h. subst (HasRefusedExports e c.args.required (module_value c.args.module.now)) (sym h.0) tt) c.from_residual-in_err-from_names.ensures.1

pub returns-in_err-from_names-clause-place : goal.returns-in_err-from_names-clause-place
returns-in_err-from_names-clause-place c =
    let P = IsPlaceIn c.args.context.now c.args.required c.args.module.now in
    failed_on IsMemoryRefusal (IsRefusedAt P) _ (memory_at P) c.from_residual-in_err-from_names.ensures.1

pub returns-clause-recorded : goal.returns-clause-recorded
returns-clause-recorded c = λ e has.
    exports_record e c.args.required c.args.module.now c.args.context.now has c.requires.keys
    c.in_ok-names.names.entries c.args.module.now.exports.items refl c.in_ok-names.ensures.recorded _ c.in_ok-check_exports.ensures.met
    c.in_ok-from_names.ensures
