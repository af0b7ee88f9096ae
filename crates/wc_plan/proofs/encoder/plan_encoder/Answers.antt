use Rattle.wc_world.specs.WorldViews.{world_view}
use Rattle.wc_plan.specs.Encoder.{ForWorlds, IsEncoderFault, IsFaultWith, IsLowered}
use Rattle.wc_plan.specs.Planner.{IsPlanFault}
use Rattle.wc_plan.proofs.EncoderLemmas.{each_fault, plan_fault, plan_fault_with, planned, planned_each, world_fault, world_fault_with}
use Rattle.wc_plan.proofs.LoweredLemmas.{fault_is_lowered}
use Rattle.wc_world.proofs.FaultLemmas.{passed_on}
use Rattle.wc_plan.proofs.encoder.plan_encoder.Goals as goal

pub returns-in_err-world-clause-fault : goal.returns-in_err-world-clause-fault
returns-in_err-world-clause-fault g c =
    passed_on (IsEncoderFault (g.O.ImportOptions.options_of c.args.options.now) c.args.encoder.now) c.from_residual.result _ c.from_residual.ensures.1
    (world_fault (g.O.ImportOptions.options_of c.args.options.now) c.args.encoder.now c.in_err-world.field-0.0 c.in_err-world.ensures.fault)

pub returns-in_err-world-clause-each_fault : goal.returns-in_err-world-clause-each_fault
returns-in_err-world-clause-each_fault g c =
    let options = g.O.ImportOptions.options_of c.args.options.now in
    passed_on (λ f. ForWorlds options c.args.encoder.now (λ w. IsFaultWith c.args.encoder.now w f)) c.from_residual.result _ c.from_residual.ensures.1
    (λ w has. world_fault_with options c.args.encoder.now w (c.worlds_exclude_faults.ensures options w has) c.in_err-world.field-0.0 c.in_err-world.ensures.fault)

pub plan-requires : goal.plan-requires
plan-requires g c = c.worlds_nameable.ensures (g.O.ImportOptions.options_of c.args.options.now) (world_view c.in_ok-world.world) c.in_ok-world.ensures.world

pub returns-clause-plan : goal.returns-clause-plan
returns-clause-plan g c =
    planned (g.O.ImportOptions.options_of c.args.options.now) c.args.encoder.now (world_view c.in_ok-world.world) c.in_ok-world.ensures.world
    c.plan.result c.plan.ensures.plan c.plan.ensures.servable

pub returns-clause-fault : goal.returns-clause-fault
returns-clause-fault g c =
    each_fault (IsPlanFault (world_view c.in_ok-world.world)) (IsEncoderFault (g.O.ImportOptions.options_of c.args.options.now) c.args.encoder.now)
    (plan_fault (g.O.ImportOptions.options_of c.args.options.now) c.args.encoder.now (world_view c.in_ok-world.world) c.in_ok-world.ensures.world)
    c.plan.result c.plan.ensures.fault

pub returns-clause-lowered : goal.returns-clause-lowered
returns-clause-lowered g c =
    each_fault (IsPlanFault (world_view c.in_ok-world.world)) IsLowered
    (λ f fault. fault_is_lowered (world_view c.in_ok-world.world) f
    (c.recorded_functions_lowered.ensures (g.O.ImportOptions.options_of c.args.options.now) (world_view c.in_ok-world.world) c.in_ok-world.ensures.world) fault)
    c.plan.result c.plan.ensures.fault

pub returns-clause-each : goal.returns-clause-each
returns-clause-each g c =
    let options = g.O.ImportOptions.options_of c.args.options.now in
    let w = world_view c.in_ok-world.world in
    let made = c.in_ok-world.ensures.world in
    planned_each options c.args.encoder.now w made c.plan.result c.plan.ensures.plan c.plan.ensures.servable
    (λ x has. c.worlds_unique.ensures options w x made has)

pub returns-clause-each_fault : goal.returns-clause-each_fault
returns-clause-each_fault g c =
    let options = g.O.ImportOptions.options_of c.args.options.now in
    let e = c.args.encoder.now in
    let w = world_view c.in_ok-world.world in
    let made = c.in_ok-world.ensures.world in
    each_fault (IsPlanFault w) (λ f. ForWorlds options e (λ x. IsFaultWith e x f))
    (λ f fault x has. plan_fault_with options e w made x (c.worlds_unique.ensures options w x made has) f fault)
    c.plan.result c.plan.ensures.fault
