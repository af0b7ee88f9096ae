use Rattle.std.proofs.Common.{subst}
use Rattle.wc_read.specs.Modules.{module_value}
use Rattle.wc_validate.specs.Explain.{IsPlaceOfImport}
use Rattle.wc_validate.specs.Private.ValidationInputs.{validation_input_of}
use Rattle.wc_validate.specs.Private.WorldInterfaces.{AreInterfacesThere}
use Rattle.wc_validate.specs.Refused.{IsMemoryRefusal, IsRefusedAt, RefusedModule}
use Rattle.wc_validate.specs.Validate.{IsCauseOfImports}
use Rattle.wc_validate.proofs.RefusedLemmas.{failed_on, memory_at}
use Rattle.wc_validate.proofs.ValidateLemmas.{memory_of_imports}
use Rattle.wc_validate.proofs.validate.module_imports.Goals as goal

pub imports_among-requires-clause-interfaces : goal.imports_among-requires-clause-interfaces
imports_among-requires-clause-interfaces c = subst (AreInterfacesThere c.args.validation_input.encoder.now) c.in-Some.is c.requires.interfaces

pub returns-in_err-interfaces-clause-fault : goal.returns-in_err-interfaces-clause-fault
returns-in_err-interfaces-clause-fault c =
    failed_on IsMemoryRefusal (λ (x : RefusedModule). IsCauseOfImports (validation_input_of c.args.validation_input) (module_value c.args.module.now) x.fault) _
    (memory_of_imports (validation_input_of c.args.validation_input) (module_value c.args.module.now)) c.from_residual.ensures.1

pub returns-in_err-interfaces-clause-place : goal.returns-in_err-interfaces-clause-place
returns-in_err-interfaces-clause-place c =
    let P = IsPlaceOfImport (validation_input_of c.args.validation_input) (module_value c.args.module.now) in
    failed_on IsMemoryRefusal (IsRefusedAt P) _ (memory_at P) c.from_residual.ensures.1
