use Rattle.std.proofs.Common.{refl}
use Rattle.wc_validate.specs.Validate.{module_record}
use Rattle.wc_calls.specs.Private.ModuleAnswers.{IsInputCause}
use Rattle.wc_calls.specs.Private.RecordAnswers.{IsInputRecord}
use Rattle.wc_calls.proofs.HeapLemmas.{boxed_as}
use Rattle.wc_calls.proofs.RefusalLemmas.{memory_as}
use Rattle.wc_calls.proofs.validation.input_record.Goals as goal

pub returns-in-Ok-clause-recorded : goal.returns-in-Ok-clause-recorded
returns-in-Ok-clause-recorded c =
    boxed_as (λ v. IsInputRecord c.args.input (module_record v)) c.heaped.result c.in-Ok.module c.heaped.ensures.value c.in-Ok.ensures.recorded

pub returns-in-Ok-clause-fault : goal.returns-in-Ok-clause-fault
returns-in-Ok-clause-fault c = memory_as (IsInputCause c.args.input) c.heaped.result refl c.heaped.ensures.fault
