use Rattle.std.proofs.Common.{refl}
use Rattle.wc_validate.specs.Validate.{main_input, module_record}
use Rattle.wc_world.specs.World.{IsMainRecord}
use Rattle.wc_calls.specs.Private.ModuleAnswers.{IsMainCause}
use Rattle.wc_calls.specs.Private.Refusals.{IsPlacedFor}
use Rattle.wc_calls.proofs.HeapLemmas.{record_there}
use Rattle.wc_calls.proofs.RefusalLemmas.{memory_as, memory_fault}
use Rattle.wc_calls.proofs.ValidatedModuleLemmas.{record_in}
use Rattle.wc_calls.proofs.validated_modules.main_text.Goals as goal

pub returns-in-Ok-clause-text : goal.returns-in-Ok-clause-text
returns-in-Ok-clause-text c =
    let e = c.args.encoder.now in
    record_in (main_input e e.module_import_map) e.module_bytes (module_record c.deref.result.now) c.record_text.result (λ v. v.items)
    (record_there (IsMainRecord e) c.in-Ok.module.value c.deref.result.now c.deref.ensures c.in-Ok.ensures.recorded) c.record_text.ensures.text

pub returns-in-Ok-clause-fault : goal.returns-in-Ok-clause-fault
returns-in-Ok-clause-fault c = memory_fault (IsMainCause c.args.encoder.now) c.record_text.result tt c.record_text.ensures.fault

pub returns-in-Ok-clause-place : goal.returns-in-Ok-clause-place
returns-in-Ok-clause-place c = memory_as (IsPlacedFor c.args.encoder.now) c.record_text.result refl c.record_text.ensures.fault
