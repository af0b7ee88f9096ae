use Rattle.wc_world.specs.WorldViews.{world_view}
use Rattle.wc_calls.specs.Private.OptionTables.{table_options}
use Rattle.wc_calls.proofs.ComponentPlanLemmas.{plan_for_world}
use Rattle.wc_calls.proofs.PlannedWorldLemmas.{faults_of_plan, places_of_plan, world_fault_of_plan, world_place_of_plan}
use Rattle.wc_calls.proofs.HeapLemmas.{world_there}
use Rattle.wc_calls.proofs.component_plans.answer_of_input.Goals as goal

pub answer_of_world-requires : goal.answer_of_world-requires
answer_of_world-requires c =
    let input = c.args.input.now in
    let made =
    world_there (table_options input.options) input.encoder c.in-Ok.world.value c.deref.result.now c.deref.ensures
    c.in-Ok.ensures.world in
    c.worlds_nameable.ensures (table_options input.options) (world_view c.deref.result.now) made

pub returns-in-Ok-clause-answer : goal.returns-in-Ok-clause-answer
returns-in-Ok-clause-answer c =
    let input = c.args.input.now in
    let made =
    world_there (table_options input.options) input.encoder c.in-Ok.world.value c.deref.result.now c.deref.ensures
    c.in-Ok.ensures.world in
    plan_for_world (table_options input.options) input.encoder (world_view c.deref.result.now) c.answer_of_world.result made
    c.answer_of_world.ensures.servable c.answer_of_world.ensures.answer

pub returns-in-Ok-clause-fault : goal.returns-in-Ok-clause-fault
returns-in-Ok-clause-fault c =
    let input = c.args.input.now in
    let made =
    world_there (table_options input.options) input.encoder c.in-Ok.world.value c.deref.result.now c.deref.ensures
    c.in-Ok.ensures.world in
    faults_of_plan (table_options input.options) input.encoder (world_view c.deref.result.now) c.answer_of_world.result made
    c.answer_of_world.ensures.refusal

pub returns-in-Ok-clause-place : goal.returns-in-Ok-clause-place
returns-in-Ok-clause-place c =
    let input = c.args.input.now in
    let made =
    world_there (table_options input.options) input.encoder c.in-Ok.world.value c.deref.result.now c.deref.ensures
    c.in-Ok.ensures.world in
    places_of_plan (table_options input.options) input.encoder (world_view c.deref.result.now) c.answer_of_world.result made
    c.answer_of_world.ensures.refusal

pub returns-in-Err-clause-fault : goal.returns-in-Err-clause-fault
returns-in-Err-clause-fault c =
    let input = c.args.input.now in
    world_fault_of_plan (table_options input.options) input.encoder c.in-Err.refused.fault c.in-Err.ensures.fault

pub returns-in-Err-clause-place : goal.returns-in-Err-clause-place
returns-in-Err-clause-place c =
    let input = c.args.input.now in
    world_place_of_plan (table_options input.options) input.encoder c.in-Err.refused.fault c.in-Err.refused.place c.in-Err.ensures.fault c.in-Err.ensures.place
