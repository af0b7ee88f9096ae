use Rattle.std.proofs.Common.{◌∙◌, subst, sym}
use Rattle.wc_read.specs.Imports.{import_values}
use Rattle.wc_read.specs.Modules.{module_value}
use Rattle.wc_validate.specs.Explain.{IsPlaceOfImport}
use Rattle.wc_validate.specs.Private.Explain.{IsStopIn}
use Rattle.wc_validate.specs.Private.Imports.Contexts.{import_scope, types_of}
use Rattle.wc_validate.specs.Private.ValidationInputs.{validation_input_of}
use Rattle.wc_validate.specs.Refused.{IsMemoryRefusal, IsRefusedAt, RefusedModule}
use Rattle.wc_validate.specs.Validate.{IsCauseOfImports, library_of}
use Rattle.wc_validate.proofs.ExplainLemmas.{import_refused}
use Rattle.wc_validate.proofs.RefusedLemmas.{failed_on, memory_at}
use Rattle.wc_validate.proofs.ValidateLemmas.{cause_is, memory_of_imports, record_is, recorded_memory}
use Rattle.wc_validate.proofs.validate.imports_among.Goals as goal

pub returns-in_err-context-clause-fault : goal.returns-in_err-context-clause-fault
returns-in_err-context-clause-fault c =
    failed_on IsMemoryRefusal (λ (x : RefusedModule). IsCauseOfImports (validation_input_of c.args.validation_input) (module_value c.args.module.now) x.fault) _
    (memory_of_imports (validation_input_of c.args.validation_input) (module_value c.args.module.now)) c.from_residual.ensures.1

pub returns-in_err-context-clause-place : goal.returns-in_err-context-clause-place
returns-in_err-context-clause-place c =
    let P = IsPlaceOfImport (validation_input_of c.args.validation_input) (module_value c.args.module.now) in
    failed_on IsMemoryRefusal (IsRefusedAt P) _ (memory_at P) c.from_residual.ensures.1

pub returns-clause-fault : goal.returns-clause-fault
returns-clause-fault c =
    let library = library_of c.args.validation_input.library in
    subst (IsCauseOfImports (validation_input_of c.args.validation_input) (module_value c.args.module.now)) (sym c.in_ok-import_refusal-in-Err.ensures.0)
    (cause_is c.args.validation_input.encoder.now c.in_ok-context.context _ library c.args.module.now.types.items _ c.args.module.now.imports.items
    c.in_ok-context.ensures.name_scope c.in_ok-context.ensures.renames c.in_ok-context.ensures.types c.deref.ensures.value
    c.in-Err.refused.index c.in-Err.refused.cause.fault (types_of c.in-Err.refused.cause)
    (c.in-Err.ensures.refused library c.in_ok-context.ensures.arguments))

pub returns-clause-place : goal.returns-clause-place
returns-clause-place c =
    import_refused (validation_input_of c.args.validation_input) c.args.module.now c.in_ok-context.context _ c.in_ok-context.ensures.name_scope
    c.in_ok-context.ensures.renames c.in_ok-context.ensures.types c.in_ok-context.ensures.arguments c.deref-in-Err.ensures.value
    c.in_ok-import_refusal-in-Err.field-0 c.in-Err.refused
    (subst (λ z. IsStopIn c.in_ok-context.context z c.in-Err.refused) (c.deref.ensures.value ∙ sym c.deref-in-Err.ensures.value) c.in-Err.ensures.refused)
    c.in_ok-import_refusal-in-Err.ensures

pub returns-in_err-import_refusal-in-Err-clause-fault : goal.returns-in_err-import_refusal-in-Err-clause-fault
returns-in_err-import_refusal-in-Err-clause-fault c =
    failed_on IsMemoryRefusal (λ (x : RefusedModule). IsCauseOfImports (validation_input_of c.args.validation_input) (module_value c.args.module.now) x.fault) _
    (memory_of_imports (validation_input_of c.args.validation_input) (module_value c.args.module.now)) c.from_residual-in_err-import_refusal-in-Err.ensures.1

pub returns-in_err-import_refusal-in-Err-clause-place : goal.returns-in_err-import_refusal-in-Err-clause-place
returns-in_err-import_refusal-in-Err-clause-place c =
    let P = IsPlaceOfImport (validation_input_of c.args.validation_input) (module_value c.args.module.now) in
    failed_on IsMemoryRefusal (IsRefusedAt P) _ (memory_at P) c.from_residual-in_err-import_refusal-in-Err.ensures.1

pub from_recorder-requires : goal.from_recorder-requires
from_recorder-requires c =
    let library = library_of c.args.validation_input.library in
    recorded_memory (import_scope c.in_ok-context.context library) (import_values c.deref.result.now) c.in-Ok.recorder
    (c.in-Ok.ensures.recorded library c.in_ok-context.ensures.arguments)

pub returns-in_err-from_recorder-in-Ok-clause-fault : goal.returns-in_err-from_recorder-in-Ok-clause-fault
returns-in_err-from_recorder-in-Ok-clause-fault c =
    failed_on IsMemoryRefusal (λ (x : RefusedModule). IsCauseOfImports (validation_input_of c.args.validation_input) (module_value c.args.module.now) x.fault) _
    (memory_of_imports (validation_input_of c.args.validation_input) (module_value c.args.module.now)) c.from_residual-in_err-from_recorder-in-Ok.ensures.1

pub returns-in_err-from_recorder-in-Ok-clause-place : goal.returns-in_err-from_recorder-in-Ok-clause-place
returns-in_err-from_recorder-in-Ok-clause-place c =
    let P = IsPlaceOfImport (validation_input_of c.args.validation_input) (module_value c.args.module.now) in
    failed_on IsMemoryRefusal (IsRefusedAt P) _ (memory_at P) c.from_residual-in_err-from_recorder-in-Ok.ensures.1

pub returns-in-Ok-clause-recorded : goal.returns-in-Ok-clause-recorded
returns-in-Ok-clause-recorded c =
    let library = library_of c.args.validation_input.library in
    record_is c.args.validation_input.encoder.now c.in_ok-context.context _ library c.args.module.now.types.items _ c.args.module.now.imports.items
    c.in_ok-context.ensures.name_scope c.in_ok-context.ensures.renames c.in_ok-context.ensures.types c.deref.ensures.value c.in-Ok.recorder _
    (c.in-Ok.ensures.recorded library c.in_ok-context.ensures.arguments) c.in_ok-from_recorder-in-Ok.ensures
