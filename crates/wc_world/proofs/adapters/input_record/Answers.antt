use Rattle.std.specs.Borrow.{Bor}
use Rattle.std.specs.Option.{option_map}
use Rattle.wc_adapters.specs.declared.adapters.LibraryInfo.{LibraryInfo}
use Rattle.wc_adapters.specs.Adapters.{library_view}
use Rattle.wc_validate.specs.Validate.{module_record}
use Rattle.wc_world.proofs.FaultLemmas.{adapter_refused, recorded_input, seen_library}
use Rattle.wc_world.proofs.adapters.input_record.Goals as goal

pub returns-in-Ok-clause-recorded : goal.returns-in-Ok-clause-recorded
returns-in-Ok-clause-recorded c =
    recorded_input c.args.input.now c.requires (option_map (λ (l : Bor LibraryInfo). library_view l.now) c.as_ref.result) (seen_library c.as_ref.result c.args.input.now.adapter.now.library_info c.as_ref.ensures.value) c.deref.result.now c.args.input.now.adapter.now.wasm.items (module_record c.in-Ok.record) c.deref.ensures.value c.in-Ok.ensures.recorded

pub returns-in-Err-clause-refusal : goal.returns-in-Err-clause-refusal
returns-in-Err-clause-refusal c =
    adapter_refused c.args.input.now c.requires (option_map (λ (l : Bor LibraryInfo). library_view l.now) c.as_ref.result) (seen_library c.as_ref.result c.args.input.now.adapter.now.library_info c.as_ref.ensures.value) c.deref.result.now c.in-Err.refused c.adapter_refusal.result c.deref.ensures.value c.in-Err.ensures.refusal c.adapter_refusal.ensures
