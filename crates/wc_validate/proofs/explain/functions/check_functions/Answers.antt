use Rattle.std.proofs.Common.{map, subst}
use Rattle.wc_read.specs.Types.{func_type_value}
use Rattle.wc_validate.specs.Exports.Record.{exports_in}
use Rattle.wc_validate.specs.Imports.Map.{required_entry}
use Rattle.wc_validate.specs.Private.ExportedFunctions.{IsExportIndexOf}
use Rattle.wc_validate.specs.Explain.{IsFunctionPlace}
use Rattle.wc_validate.specs.Refused.{IsMemoryRefusal, IsRefusedAt, RefusedModule}
use Rattle.wc_validate.specs.Requirements.{IsUnmetFault, type_requirement}
use Rattle.wc_validate.proofs.MissingLemmas.{function_refused, functions_failed}
use Rattle.wc_validate.proofs.RefusedLemmas.{failed_on}
use Rattle.wc_validate.proofs.explain.functions.check_functions.Goals as goal

pub returns-clause-refused : goal.returns-clause-refused
returns-clause-refused c = λ r recorded.
    let xs = exports_in c.args.module.now c.args.module.now.exports.items in
    let functions = map required_entry c.args.functions.now.entries in
    let same = subst (λ z. IsExportIndexOf c.in_ok-index.index.entries (exports_in c.args.module.now z)) c.deref.ensures.value c.in_ok-index.ensures in
    let lack = c.in-Err.ensures.lacking r xs recorded same in
    function_refused r xs recorded functions (c.in-Err.lacking.name.now, func_type_value c.in-Err.lacking.ty.now) c.in-Err.lacking.fault
    c.in_ok-function_refusal-in-Err.field-0 c.in_ok-function_refusal-in-Err.ensures.fault lack (c.in_ok-function_refusal-in-Err.ensures.place r xs recorded functions same lack)

pub returns-in-Ok-clause-met : goal.returns-in-Ok-clause-met
returns-in-Ok-clause-met c = λ r recorded.
    let xs = exports_in c.args.module.now c.args.module.now.exports.items in
    let same = subst (λ z. IsExportIndexOf c.in_ok-index.index.entries (exports_in c.args.module.now z)) c.deref.ensures.value c.in_ok-index.ensures in
    c.in-Ok.ensures.met r xs recorded same

pub returns-in_err-index-clause-refused : goal.returns-in_err-index-clause-refused
returns-in_err-index-clause-refused c = λ r recorded.
    let xs = exports_in c.args.module.now c.args.module.now.exports.items in
    let functions = map required_entry c.args.functions.now.entries in
    failed_on IsMemoryRefusal (λ (x : RefusedModule). IsUnmetFault r xs recorded (map type_requirement functions) x.fault
    × IsRefusedAt (IsFunctionPlace r xs recorded functions) x) _ (functions_failed r xs recorded functions) c.from_residual.ensures.1

pub returns-in_err-function_refusal-in-Err-clause-refused : goal.returns-in_err-function_refusal-in-Err-clause-refused
returns-in_err-function_refusal-in-Err-clause-refused c = λ r recorded.
    let xs = exports_in c.args.module.now c.args.module.now.exports.items in
    let functions = map required_entry c.args.functions.now.entries in
    failed_on IsMemoryRefusal (λ (x : RefusedModule). IsUnmetFault r xs recorded (map type_requirement functions) x.fault
    × IsRefusedAt (IsFunctionPlace r xs recorded functions) x) _ (functions_failed r xs recorded functions) c.from_residual-in_err-function_refusal-in-Err.ensures.1
