use Rattle.std.proofs.Common.{None, ap, refl, sym}
use Rattle.std.specs.Option.{option_map}
use Rattle.wc_adapters.specs.Adapters.{library_view}
use Rattle.wc_validate.specs.Validate.{module_record}
use Rattle.wc_world.proofs.FaultLemmas.{minimized_refused, recorded_input}
use Rattle.wc_world.proofs.adapters.trimmed_record.Goals as goal

pub returns-in-Ok-clause-recorded : goal.returns-in-Ok-clause-recorded
returns-in-Ok-clause-recorded c = recorded_input c.args.input.now c.requires.needed None (sym (ap (option_map library_view) c.requires.trims)) c.args.bytes.now c.args.bytes.now (module_record c.in-Ok.record) refl c.in-Ok.ensures.recorded

pub returns-in-Err-clause-refusal : goal.returns-in-Err-clause-refusal
returns-in-Err-clause-refusal c = λ first trim.
    minimized_refused c.args.input.now c.requires.needed None (sym (ap (option_map library_view) c.requires.trims)) c.args.bytes.now c.in-Err.refused c.minimized_refusal.result first c.trimmed_is_restricted.ensures.collides trim c.in-Err.ensures.refusal c.minimized_refusal.ensures
