use Rattle.wc_world.specs.World.{IsWorldOf}
use Rattle.wc_world.specs.WorldViews.{world_view}
use Rattle.wc_calls.specs.Private.EncoderAnswers.{IsFaultFor}
use Rattle.wc_calls.specs.Private.OptionTables.{table_options}
use Rattle.wc_calls.proofs.ComponentWorldLemmas.{world_fault_for}
use Rattle.wc_calls.proofs.HeapLemmas.{boxed_as}
use Rattle.std.proofs.Common.{refl}
use Rattle.wc_calls.specs.MessageFault.{of_world}
use Rattle.wc_calls.specs.Private.Refusals.{IsPlacedFor}
use Rattle.wc_calls.specs.declared.refusals.MessagePlace.TheVariants as place
use Rattle.wc_calls.proofs.RefusalLemmas.{memory_as, memory_fault, refusal_as, refusal_fault, world_at}
use Rattle.wc_calls.proofs.component_worlds.made_world.Goals as goal

pub returns-in-Ok-clause-world : goal.returns-in-Ok-clause-world
returns-in-Ok-clause-world c =
    let input = c.args.input.now in
    boxed_as (λ w. IsWorldOf (table_options input.options) input.encoder (world_view w)) c.heaped.result c.in-Ok.world c.heaped.ensures.value
    c.in-Ok.ensures.world

pub returns-in-Ok-clause-fault : goal.returns-in-Ok-clause-fault
returns-in-Ok-clause-fault c = memory_fault (IsFaultFor c.args.input.now.encoder) c.heaped.result tt c.heaped.ensures.fault

pub returns-in-Ok-clause-place : goal.returns-in-Ok-clause-place
returns-in-Ok-clause-place c = memory_as (IsPlacedFor c.args.input.now.encoder) c.heaped.result refl c.heaped.ensures.fault

pub returns-in-Err-clause-fault : goal.returns-in-Err-clause-fault
returns-in-Err-clause-fault c =
    let e = c.args.input.now.encoder in
    refusal_fault (IsFaultFor e) of_world place.World c.in-Err.refused c.world_refusal.result c.world_refusal.ensures
    (world_fault_for e c.in-Err.refused.fault c.in-Err.ensures.fault)

pub returns-in-Err-clause-place : goal.returns-in-Err-clause-place
returns-in-Err-clause-place c =
    let e = c.args.input.now.encoder in
    refusal_as (IsPlacedFor e) of_world place.World c.in-Err.refused c.world_refusal.result c.world_refusal.ensures
    (world_at e c.in-Err.refused.fault c.in-Err.refused.place c.in-Err.ensures.place)
