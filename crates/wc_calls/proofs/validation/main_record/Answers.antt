use Rattle.std.proofs.Common.{refl}
use Rattle.wc_validate.specs.Validate.{module_record}
use Rattle.wc_world.specs.World.{IsMainRecord}
use Rattle.wc_calls.specs.Private.ModuleAnswers.{IsMainCause}
use Rattle.wc_calls.specs.Private.Refusals.{IsPlacedFor}
use Rattle.wc_calls.proofs.HeapLemmas.{boxed_as}
use Rattle.wc_calls.proofs.RefusalLemmas.{memory_as, memory_fault}
use Rattle.wc_calls.proofs.validation.main_record.Goals as goal

pub returns-in-Ok-clause-recorded : goal.returns-in-Ok-clause-recorded
returns-in-Ok-clause-recorded c =
    boxed_as (λ v. IsMainRecord c.args.encoder.now (module_record v)) c.heaped.result c.in-Ok.module c.heaped.ensures.value c.in-Ok.ensures.recorded

pub returns-in-Ok-clause-fault : goal.returns-in-Ok-clause-fault
returns-in-Ok-clause-fault c = memory_fault (IsMainCause c.args.encoder.now) c.heaped.result tt c.heaped.ensures.fault

pub returns-in-Ok-clause-place : goal.returns-in-Ok-clause-place
returns-in-Ok-clause-place c = memory_as (IsPlacedFor c.args.encoder.now) c.heaped.result refl c.heaped.ensures.fault
