use Rattle.wc_world.specs.WorldViews.{world_view}
use Rattle.wc_calls.specs.Private.EncoderAnswers.{IsFaultFor}
use Rattle.wc_calls.specs.Private.OptionTables.{table_options}
use Rattle.wc_calls.proofs.ComponentWorldLemmas.{answered_for}
use Rattle.std.proofs.Common.{refl}
use Rattle.wc_calls.specs.Private.Refusals.{IsPlacedFor}
use Rattle.wc_calls.proofs.RefusalLemmas.{memory_as, memory_fault}
use Rattle.wc_calls.proofs.HeapLemmas.{world_there}
use Rattle.wc_calls.proofs.component_worlds.answer_of_input.Goals as goal

pub returns-in-Ok-clause-answer : goal.returns-in-Ok-clause-answer
returns-in-Ok-clause-answer c =
    let input = c.args.input.now in
    let made =
    world_there (table_options input.options) input.encoder c.in-Ok.world.value c.deref.result.now c.deref.ensures
    c.in-Ok.ensures.world in
    answered_for (table_options input.options) input.encoder (world_view c.deref.result.now) c.answer_of_world.result made
    c.answer_of_world.ensures.modules c.answer_of_world.ensures.json

pub returns-in-Ok-clause-fault : goal.returns-in-Ok-clause-fault
returns-in-Ok-clause-fault c = memory_fault (IsFaultFor c.args.input.now.encoder) c.answer_of_world.result tt c.answer_of_world.ensures.fault

pub returns-in-Ok-clause-place : goal.returns-in-Ok-clause-place
returns-in-Ok-clause-place c =
    memory_as (IsPlacedFor c.args.input.now.encoder) c.answer_of_world.result refl c.answer_of_world.ensures.fault
