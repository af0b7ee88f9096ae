-- The faults of the program for those of a component's world and of its plan.
use Rattle.std.specs.Prelude.{◌≡◌, ◌≢◌}
use Rattle.wc_encoder.specs.EncoderParts.{EncoderView}
use Rattle.wc_plan.specs.Fault.{RefusedPlan}
use Rattle.wc_plan.specs.declared.fault.PlanFault.TheVariants.{Memory as plan_memory}
use Rattle.wcplan_inputs.specs.Details.{IsExplanation}
use Rattle.wcplan_inputs.specs.declared.fault.ProgramFault.{ProgramFault}
use Rattle.wcplan_inputs.specs.declared.fault.ProgramFault.TheVariants.{Plan, World, Memory as no_memory}
use Rattle.wc_world.specs.declared.fault.WorldFault.{WorldFault}
use Rattle.wc_world.specs.declared.fault.WorldFault.TheVariants.{Memory as world_memory}

-- the fault of the program for one of the component's world; there may have been no memory for what it is about
abbrev pub IsOfWorld : EncoderView → WorldFault → ProgramFault → Type 0
IsOfWorld e f no_memory = Unit {0}
IsOfWorld e f (World x) = (x.fault ≡ f) × (f ≢ world_memory) × IsExplanation e f x.place
IsOfWorld e f g = ⊥

-- the fault of the program for one of a plan
abbrev pub IsOfPlan : RefusedPlan → ProgramFault → Type 0
IsOfPlan x no_memory = Unit {0}
IsOfPlan x (Plan y) = (y ≡ x) × (x.fault ≢ plan_memory)
IsOfPlan x g = ⊥
