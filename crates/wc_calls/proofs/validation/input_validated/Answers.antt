use Rattle.std.specs.Borrow.{Bor}
use Rattle.std.specs.Option.{option_map}
use Rattle.wc_adapters.specs.Adapters.{library_view}
use Rattle.wc_adapters.specs.declared.adapters.LibraryInfo.{LibraryInfo}
use Rattle.wc_validate.specs.Validate.{module_record}
use Rattle.wc_world.proofs.FaultLemmas.{seen_library}
use Rattle.wc_calls.proofs.ModuleLemmas.{input_recorded, input_refused}
use Rattle.wc_calls.proofs.validation.input_validated.Goals as goal

pub returns-in-Ok-clause-recorded : goal.returns-in-Ok-clause-recorded
returns-in-Ok-clause-recorded c =
    let g = c.args.input in
    input_recorded g (option_map (λ (l : Bor LibraryInfo). library_view l.now) c.as_ref.result)
    (seen_library c.as_ref.result g.adapter.now.library_info c.as_ref.ensures.value) c.deref.result.now (module_record c.in-Ok.module)
    c.deref.ensures.value c.in-Ok.ensures.recorded

pub returns-in-Err-clause-fault : goal.returns-in-Err-clause-fault
returns-in-Err-clause-fault c =
    let g = c.args.input in
    input_refused g (option_map (λ (l : Bor LibraryInfo). library_view l.now) c.as_ref.result)
    (seen_library c.as_ref.result g.adapter.now.library_info c.as_ref.ensures.value) c.deref.result.now c.in-Err.refused c.adapter_refusal.result
    c.world_refusal.result c.deref.ensures.value c.in-Err.ensures.fault c.in-Err.ensures.place c.adapter_refusal.ensures c.world_refusal.ensures
