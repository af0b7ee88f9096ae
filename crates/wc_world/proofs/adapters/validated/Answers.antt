use Rattle.std.proofs.Common.{IfErr, IfOk, subst}
use Rattle.wc_encoder.specs.EncoderParts.{EncoderView}
use Rattle.wc_validate.specs.Explain.{IsPlace}
use Rattle.wc_validate.specs.Refused.{IsRefusedAt, RefusedModule}
use Rattle.wc_validate.specs.Validate.{IsRecordOf, IsValidateCause, adapter_input_of, module_record}
use Rattle.wc_world.specs.Private.Refused.{IsModuleRefusal}
use Rattle.wc_world.proofs.RefusedLemmas.{err_both}
use Rattle.wc_world.proofs.adapters.validated.Goals as goal

pub returns-clause-recorded : goal.returns-clause-recorded
returns-clause-recorded c =
    let i = c.args.input.now in
    subst (λ (e : EncoderView). IfOk c.validate_adapter_module_explained.result (λ v. IsRecordOf (adapter_input_of e c.args.library i.adapter.now.required_exports.keys i.required.now.entries) c.args.bytes.now (module_record v)))
    c.requires c.validate_adapter_module_explained.ensures.recorded

pub returns-clause-refusal : goal.returns-clause-refusal
returns-clause-refusal c =
    let i = c.args.input.now in
    let j = λ (e : EncoderView). adapter_input_of e c.args.library i.adapter.now.required_exports.keys i.required.now.entries in
    subst (λ (e : EncoderView). IfErr c.validate_adapter_module_explained.result (IsModuleRefusal (j e) c.args.bytes.now)) c.requires
    (err_both (λ (x : RefusedModule). IsValidateCause (j i.interfaces.now) c.args.bytes.now x.fault) (IsRefusedAt (IsPlace (j i.interfaces.now) c.args.bytes.now)) c.validate_adapter_module_explained.result c.validate_adapter_module_explained.ensures.fault
    c.validate_adapter_module_explained.ensures.place)
