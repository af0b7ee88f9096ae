use Rattle.std.proofs.Common.{refl}
use Rattle.wc_validate.specs.Validate.{module_record}
use Rattle.wc_calls.specs.Private.ModuleAnswers.{IsInputCause, input_of}
use Rattle.wc_calls.specs.Private.RecordAnswers.{IsInputRecord}
use Rattle.wc_calls.proofs.HeapLemmas.{record_there}
use Rattle.wc_calls.proofs.RefusalLemmas.{memory_as}
use Rattle.wc_calls.proofs.ValidatedModuleLemmas.{record_in}
use Rattle.wc_calls.proofs.validated_modules.input_text.Goals as goal

pub returns-in-Ok-clause-text : goal.returns-in-Ok-clause-text
returns-in-Ok-clause-text c =
    let g = c.args.input in
    record_in (input_of g) g.adapter.now.wasm.items (module_record c.deref.result.now) c.record_text.result (λ v. v.items)
    (record_there (IsInputRecord g) c.in-Ok.module.value c.deref.result.now c.deref.ensures c.in-Ok.ensures.recorded) c.record_text.ensures.text

pub returns-in-Ok-clause-fault : goal.returns-in-Ok-clause-fault
returns-in-Ok-clause-fault c = memory_as (IsInputCause c.args.input) c.record_text.result refl c.record_text.ensures.fault
